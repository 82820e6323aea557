-- No pointer is static.
use Rattle.std.proofs.Common.{◌≡◌, [], ◌∷◌, Bool, true, false, map, refl, ap, ◌∙◌}
use Rattle.std.specs.Prelude.{not, ◌&&◌, ◌||◌, if◌then◌else◌}
use Rattle.std.specs.List.{list_all}
use Rattle.declared_objects.specs.Initialisers.{is_missing}
use Rattle.operator_meaning.specs.declared.object.Storage.TheVariants.{Static, Automatic}
use Rattle.c_seen.specs.declared.seen.Seen.{Seen}
use Rattle.c_seen.specs.declared.seen.Seen.TheVariants as seen
use Rattle.c_seen.specs.declared.seen.SeenObject.{SeenObject}
use Rattle.c_seen.specs.Functions.{functions_of}
use Rattle.c_seen.specs.Meanings.{Names}
use Rattle.c_seen.specs.Sources.{seen_in_items, end_of}
use Rattle.c_faults.specs.Faults.{faults_at}
use Rattle.tied_names.specs.Numbers.{token_of, exposed_in}
use Rattle.tied_names.specs.Ties.{is_view}
use Rattle.c_types.specs.Sources.{opening}
use Rattle.c_types.specs.Tied.{notes_of}
use Rattle.lawful_sources.specs.Objects.{is_static, is_no_static_view}
use Rattle.lawful_sources.proofs.Passing.{Each}
use Rattle.lawful_laws.specs.Laws.{ViewsAreNotStatic}
use Rattle.lawful_laws.proofs.Objects.{HoldsOfObjects, items-hold}
use Rattle.lawful_laws.proofs.Sound.{seen-sound}
use Rattle.lawful_laws.proofs.Statements.{earlier}

abbrev sound : Seen → Bool
sound (seen.Object object) = not object.misuses_pointer
sound s = true

of-object : (object : SeenObject) (initialiser length pointer : Bool) → object.has_bad_initialiser ≡ initialiser → object.has_bad_length ≡ length → object.misuses_pointer ≡ pointer
    → faults_at (seen.Object object) ≡ [] → not pointer ≡ true
of-object object initialiser length false p q r none = refl
of-object object true length true p q r none = let some = rw p at none in cc
of-object object false true true p q r none = let some = rw (p, q) at none in cc
of-object object false false true p q r none = let some = rw (p, q, r) at none in cc

each : (s : Seen) → faults_at s ≡ [] → sound s ≡ true
each (seen.Place p) none = refl
each (seen.Call call) none = refl
each (seen.NoView at) none = refl
each (seen.Name at is_taken) none = refl
each (seen.Object object) none = of-object object object.has_bad_initialiser object.has_bad_length object.misuses_pointer refl refl refl none
each (seen.Parameter param) none = refl
each (seen.Function function) none = refl
each (seen.Statement at) none = refl
each (seen.Constant at value) none = refl
each (seen.Leave at in_loop) none = refl
each (seen.Return at has_value gives) none = refl
each (seen.End at has_main) none = refl

in-function : (view static missing : Bool) → not (view && (static || missing)) ≡ true → not (view && is_static (if static then Static else Automatic)) ≡ true
in-function false static missing p = refl
in-function true true missing p = p
in-function true false missing p = refl

at-file : (view missing : Bool) → not (view && (true || missing)) ≡ true → not (view && true) ≡ true
at-file false missing p = refl
at-file true missing p = p

never : (view : Bool) → not (view && false) ≡ true
never true = refl
never false = refl

holds : HoldsOfObjects sound is_no_static_view
holds = record {
  inner = λ decl function exposed p. in-function decl.pointer decl.is_static (is_missing decl.init) p;
  outer = λ decl exposed p. at-file decl.pointer (is_missing decl.init) p;
  parameters = λ param function exposed. never (is_view param);
}

pub not-static : ViewsAreNotStatic
not-static program typed is =
    let names : Names = record { items = program.items; functions = functions_of program.items; known = [] } in
    let list : Each sound (seen_in_items names [] 0 program.items) = earlier sound (seen_in_items names [] 0 program.items) (end_of program ∷ []) (record { all = seen-sound sound each program is.faultless }) in
    ap (list_all is_no_static_view) is.tied.objects
    ∙ items-hold sound is_no_static_view holds (opening program.items (map token_of typed.sites) (exposed_in [] (notes_of program))) names [] 0 program.items list refl
