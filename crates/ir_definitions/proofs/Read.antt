-- What is read alike of a thing in a source and in its tree is read alike of all that stands there, in another order.
use Rattle.std.proofs.Common.{◌≡◌, ℕ, ◌+◌, List, [], ◌∷◌, ◌++◌, Bool, true, false, map, filter, IsPermutation, refl, sym, ap, ◌∙◌, subst, append-nil}
use Rattle.std.proofs.lemmas.List.Concat.{flat_map-append}
use Rattle.std.proofs.lemmas.List.Sorted.{IsPermutation-trans, IsPermutation-sym, list_any-IsPermutation}
use Rattle.std.proofs.lemmas.Map.Views.{any-filter_same}
use Rattle.std.specs.Prelude.{◌==◌, flat_map, slice_get, unwrap_or, Option, Some, None, option_map, if◌then◌else◌}
use Rattle.std.specs.List.{list_any}
use Rattle.sat_base.specs.declared.name.At.{At}
use Rattle.sat_base.specs.declared.width.Width.{Width}
use Rattle.operator_meaning.specs.declared.object.Object.{Object}
use Rattle.operator_meaning.specs.declared.object.Site.{Site}
use Rattle.operator_meaning.specs.declared.site.SiteKind.{SiteKind}
use Rattle.c_typed.specs.declared.call.Callee.{Callee}
use Rattle.c_typed.specs.declared.typed.Typed.{Typed}
use Rattle.ir_arena.specs.declared.ir.Ir.{Ir}
use Rattle.lawful_ir.specs.Built.{IsTreeOf}
use Rattle.typed_meaning.specs.Expressions.{site_at}
use Rattle.whole_trees.specs.Sources.{renumbered}
use Rattle.lawful_sources.specs.Lawful.{IsLawful, at_of}
use Rattle.lawful_sources.specs.Objects.{is_given, exposed_from}
use Rattle.lawful_sources.specs.Rows.{is_of, has_site, mark_is_numbered, standing_site, sites_standing}
use Rattle.lawful_sources.specs.Statements.{in_source}
use Rattle.lawful_sources.specs.Things.{Thing, Place, Call, Argument, Mark, Conversion, Begins, Constant, Statement, Leave, Return}
use Rattle.lawful_sources.proofs.Passing.{Each}
use Rattle.lawful_ir.specs.Lawful.{tables_of, things_in}
use Rattle.lawful_ir.specs.Positions.{TreeThing, thing_of, things_of}
use Rattle.lawful_ir.specs.Walk.{site_token, nowhere_at}
use Rattle.lawful_ir.proofs.Alike.{left, right, never, head, tail, fine, all_of, converts}
use Rattle.lawful_ir.proofs.Followed.{same-by}
use Rattle.lawful_ir.proofs.Kept.{all-fine}
use Rattle.lawful_ir.proofs.Wholes.{numbers, defined_things, defined-pass, stands-are, sites-are, objects-are}
use Rattle.ir_definitions.proofs.Permuted.{flat_map-permuted}
use Rattle.ir_definitions.proofs.Defined.{source-holds}

module _ (typed : Typed) (ir : Ir) (lawful : IsLawful typed) (is : IsTreeOf typed ir) where
  abbrev pub in_tree : Thing → List Thing
  in_tree x = things_of (converts (tables_of ir) (numbers typed ir lawful is) x)

  -- `read` is what is read of a thing in the tree, and `other` of one in the source
  module _ {A : Type 0} (read other : Thing → List A) (alike : (x : Thing) → fine typed x ≡ true → flat_map read (in_tree x) ≡ other x) where
    pub all-alike : (list : List Thing) → Each (fine typed) list → flat_map read (things_of (all_of typed (tables_of ir) (numbers typed ir lawful is) list)) ≡ flat_map other list
    all-alike [] each = refl
    all-alike (x ∷ list) each =
        ap (flat_map read) (flat_map-append thing_of (converts (tables_of ir) (numbers typed ir lawful is) x) (all_of typed (tables_of ir) (numbers typed ir lawful is) list))
        ∙ flat_map-append read (in_tree x) _
        ∙ rw (alike x (head (fine typed) x list each), all-alike list (tail (fine typed) x list each)) refl

    pub read-alike : IsPermutation (flat_map other (in_source typed)) (flat_map read (things_in ir))
    read-alike =
        let each : Each (fine typed) (in_source typed) = all-fine typed lawful in
        let same : flat_map read (things_in ir) ≡ flat_map other (defined_things typed ir lawful is) =
        ap (λ (l : List TreeThing). flat_map read (things_of l)) (stands-are typed ir lawful is each) ∙ all-alike (defined_things typed ir lawful is) (defined-pass typed ir lawful is (fine typed) each) in
        subst (IsPermutation (flat_map other (in_source typed))) (sym same) (flat_map-permuted other _ _ (source-holds typed ir lawful is))

  -- ---- what passes a test

  -- a test that passes no call, no mark and no conversion
  pub record Plain (test : Thing → Bool) : Type 0 where
    pub calls : (callee : Callee) (count : ℕ) (is_needed : Bool) → test (Call callee count is_needed) ≡ false
    pub marks : (at : At) (site : Option ℕ) (kind : Option SiteKind) → test (Mark at site kind) ≡ false
    pub conversions : (stands due : Option Width) → test (Conversion stands due) ≡ false

  abbrev passing : (Thing → Bool) → Thing → List Thing
  passing test x = if test x then x ∷ [] else []

  filter-reads : (test : Thing → Bool) (list : List Thing) → filter test list ≡ flat_map (passing test) list
  filter-reads test [] = refl
  filter-reads test (x ∷ list) = by (test x) (filter-reads test list)
    where
      by : (b : Bool) → filter test list ≡ flat_map (passing test) list → (if b then x ∷ filter test list else filter test list) ≡ (if b then x ∷ [] else []) ++ flat_map (passing test) list
      by true rest = ap (λ l. x ∷ l) rest
      by false rest = rest

  none-passes : (test : Thing → Bool) (x : Thing) → test x ≡ false → passing test x ≡ []
  none-passes test x fails = ap (λ b. if b then x ∷ [] else []) fails

  plain-alike : (test : Thing → Bool) → Plain test → (x : Thing) → flat_map (passing test) (in_tree x) ≡ passing test x
  plain-alike test plain (Call callee count is_needed) = append-nil _ ∙ none-passes test _ (plain.calls _ count is_needed) ∙ sym (none-passes test _ (plain.calls callee count is_needed))
  plain-alike test plain (Mark at site None) = sym (none-passes test _ (plain.marks at site None))
  plain-alike test plain (Mark at site (Some kind)) = append-nil _ ∙ none-passes test _ (plain.marks _ _ (Some kind)) ∙ sym (none-passes test _ (plain.marks at site (Some kind)))
  plain-alike test plain (Conversion None None) = sym (none-passes test _ (plain.conversions None None))
  plain-alike test plain (Conversion None (Some due)) = append-nil _
  plain-alike test plain (Conversion (Some width) due) = append-nil _
  plain-alike test plain (Place object marks aim) = append-nil _
  plain-alike test plain (Argument is_view taken) = append-nil _
  plain-alike test plain (Begins object value) = append-nil _
  plain-alike test plain (Constant value) = append-nil _
  plain-alike test plain Statement = append-nil _
  plain-alike test plain (Leave in_loop) = append-nil _
  plain-alike test plain (Return has_value gives) = append-nil _

  pub filter-alike : (test : Thing → Bool) → Plain test → IsPermutation (filter test (in_source typed)) (filter test (things_in ir))
  filter-alike test plain =
      rw (filter-reads test (in_source typed), filter-reads test (things_in ir)) (read-alike (passing test) (passing test) (λ x f. plain-alike test plain x))

  any-alike : (test : Thing → Bool) → Plain test → list_any test (things_in ir) ≡ list_any test (in_source typed)
  any-alike test plain =
      sym (any-filter_same test test true (λ x p. p) (things_in ir)) ∙ sym (list_any-IsPermutation test _ _ (filter-alike test plain)) ∙ any-filter_same test test true (λ x p. p) (in_source typed)

  -- ---- exposed objects

  exposed-alike : (number : ℕ) (objects : List Object) → exposed_from (things_in ir) number (map (renumbered is.definitions) objects) ≡ exposed_from (in_source typed) number objects
  exposed-alike number [] = refl
  exposed-alike number (object ∷ objects) =
      let given : list_any (is_given number) (things_in ir) ≡ list_any (is_given number) (in_source typed) =
      any-alike (is_given number) (record { calls = λ callee count is_needed. refl; marks = λ at site kind. refl; conversions = λ stands due. refl }) in
      rw (given, exposed-alike (number + 1) objects) refl

  pub exposed-given : exposed_from (things_in ir) 0 ir.objects ≡ true
  exposed-given = ap (exposed_from (things_in ir) 0) (objects-are typed ir lawful is) ∙ exposed-alike 0 typed.objects ∙ lawful.exposed_are_given

  -- ---- sites

  token-there : (at : At) (site : Option Site) → is_of at site ≡ true → unwrap_or (option_map at_of site) nowhere_at ≡ at
  token-there at None p = never p
  token-there at (Some site) p =
      let rest = right (site.tok == at.tok) _ p in
      ap (λ (n : ℕ). record { tok = n; pos = site.pos }) (same-by site.tok at.tok (left (site.tok == at.tok) _ p))
      ∙ ap (λ (n : ℕ). record { tok = at.tok; pos = record { line = n; col = site.pos.col } }) (same-by site.pos.line at.pos.line (left (site.pos.line == at.pos.line) _ rest))
      ∙ ap (λ (n : ℕ). record { tok = at.tok; pos = record { line = at.pos.line; col = n } }) (same-by site.pos.col at.pos.col (right (site.pos.line == at.pos.line) _ rest))

  numbered-there : (at : At) (site : Option ℕ) (kind : SiteKind) → has_site typed at site (Some kind) ≡ true → site_token ir.sites (site_at site) ≡ at
  numbered-there at None kind p = never p
  numbered-there at (Some site) kind p = rw (sites-are typed ir lawful is) (token-there at (slice_get typed.sites site) p)

  sites-alike : (x : Thing) → fine typed x ≡ true → flat_map standing_site (in_tree x) ≡ standing_site x
  sites-alike (Mark at site None) f = refl
  sites-alike (Mark at site (Some kind)) f = ap (λ (t : At). t ∷ []) (numbered-there at site kind (left (mark_is_numbered typed (Mark at site (Some kind))) _ f))
  sites-alike (Conversion None None) f = refl
  sites-alike (Conversion None (Some due)) f = refl
  sites-alike (Conversion (Some width) due) f = refl
  sites-alike (Place object marks aim) f = refl
  sites-alike (Call callee count is_needed) f = refl
  sites-alike (Argument is_view taken) f = refl
  sites-alike (Begins object value) f = refl
  sites-alike (Constant value) f = refl
  sites-alike Statement f = refl
  sites-alike (Leave in_loop) f = refl
  sites-alike (Return has_value gives) f = refl

  pub sites-once : IsPermutation (sites_standing (things_in ir)) (map at_of ir.sites)
  sites-once =
      subst (λ (l : List Site). IsPermutation (sites_standing (things_in ir)) (map at_of l)) (sym (sites-are typed ir lawful is))
      (IsPermutation-trans _ _ _ (IsPermutation-sym _ _ (read-alike standing_site standing_site sites-alike)) lawful.sites_stand_once)
