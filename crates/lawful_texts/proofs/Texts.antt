-- The constants that stand in the definitions of a source, in the order of the text, are those that are seen: item by
-- item.
use Rattle.std.proofs.Common.{◌≡◌, ℕ, suc, ◌+◌, ◌<◌, List, [], ◌∷◌, ◌++◌, Bool, true, false, length, refl, sym, ap, ◌∙◌, arith}
use Rattle.std.specs.Prelude.{ℤ, flat_map, ◌&&◌, if◌then◌else◌, nat_lt, Option, Some, None, is_some, slice_get, slice_set}
use Rattle.std.proofs.lemmas.Bool.Decides.{nat_tests}
use Rattle.std.proofs.lemmas.List.{append_assoc, append-nil}
use Rattle.std.proofs.lemmas.List.Concat.{flat_map-append}
use Rattle.std.proofs.lemmas.Option.{slice_get_within}
use Rattle.c_scopes.specs.Scopes.{Known}
use Rattle.c_tree.specs.declared.function.Function.{Function}
use Rattle.c_tree.specs.declared.program.Item.{Item}
use Rattle.c_tree.specs.declared.program.Item.TheVariants as items_of
use Rattle.c_tree.specs.declared.statement.Block.{Block}
use Rattle.c_typed.specs.declared.typed.Typed.{Typed}
use Rattle.c_typed.specs.declared.typed.TypedFunction.{TypedFunction}
use Rattle.c_grammar.specs.Nodes as a
use Rattle.c_grammar.specs.Parts.{each}
use Rattle.c_seen.specs.declared.functions.Declaration.{Declaration}
use Rattle.c_seen.specs.declared.seen.Seen.{Seen}
use Rattle.c_seen.specs.Declarations.{seen_in_objects, seen_in_parameters, after_parameters}
use Rattle.c_seen.specs.Functions.{is_defined}
use Rattle.c_seen.specs.Meanings.{Names}
use Rattle.c_seen.specs.Sources as seen_sources
use Rattle.c_seen.specs.Sources.{body_spot, seen_in_body, seen_in_function, seen_in_items, functions_after, end_of, seen_of}
use Rattle.tied_names.specs.Ties.{tie_of}
use Rattle.c_types.specs.Sources.{Source, function_number, defined, defining, number_of, parameters_of, inside_of, body_of, after_declaration, after_body, after_function, after_item, after_items}
use Rattle.lawful_sources.specs.Statements.{in_function}
use Rattle.lawful_sources.specs.Lawful.{constants_standing, distinct_after, definitions_in}
use Rattle.lawful_laws.proofs.Statements.{earlier, later, tail}
use Rattle.lawful_names.proofs.Clean.{is_clean, when-clean}
use Rattle.lawful_names.proofs.Faultless.{seen-clean}
use Rattle.lawful_names.proofs.Keeping.{Entry, entry-of}
use Rattle.lawful_names.proofs.Reached.{Reached, Steps, steps, state_of, next-reached}
use Rattle.lawful_names.proofs.Sources.{start_of, names_at_start, reached}
use Rattle.lawful_texts.specs.Laws.{ConstantsStand}
use Rattle.lawful_texts.proofs.Alike.{Near, none-declared, function-near, objects-near, parameters-near}
use Rattle.lawful_texts.proofs.Beginnings.{not-told}
use Rattle.lawful_texts.proofs.Claims.{Sound, BodySame, Claim}
use Rattle.lawful_texts.proofs.Distinct.{distinct}
use Rattle.lawful_texts.proofs.Order.{Below, below-more, below-or, below-set, defined-last, known-none}
use Rattle.lawful_texts.proofs.Rising.{Rising, rising}
use Rattle.lawful_texts.proofs.Same.{values, values-append, standing-append}
use Rattle.lawful_texts.proofs.Standing.{own, AllSame, items-same, by_rule}
use Rattle.lawful_texts.proofs.Walk.{Within, walked}

below-if : (test : Bool) (n : ℕ) (one other : List TypedFunction) → Below n one → Below n other → Below n (if test then one else other)
below-if true n one other p q = p
below-if false n one other p q = q

body-below : (s : Source) (number : ℕ) (g : Function) (body : Option Block) → Below g.name.at.tok s.functions → Below (suc g.name.at.tok) (after_body s number g body).functions
body-below s number g None all = below-more g.name.at.tok (suc g.name.at.tok) (omega arith) s.functions all
body-below s number g (Some body) all =
    let more : Below (suc g.name.at.tok) s.functions = below-more g.name.at.tok (suc g.name.at.tok) (omega arith) s.functions all in
    below-if (nat_lt number (length s.functions)) (suc g.name.at.tok) _ s.functions (below-set (suc g.name.at.tok) s.functions number _ (omega arith) more) more

defining-set : (functions : List TypedFunction) (number : ℕ) (t f : TypedFunction) → slice_get functions number ≡ Some t → defining functions number f ≡ slice_set functions number f
defining-set functions number t f stands =
    let less : number < length functions = slice_get_within functions number t stands in
    let test : nat_lt number (length functions) ≡ true = grind (arith, nat_tests) in rw test refl

not-again : (whole before : Bool) → (whole && before) ≡ false → whole ≡ true → before ≡ false
not-again true before p q = p
not-again false before p q = cc

module _ (source : Typed) (items : List Item) where
  abbrev constants_of_text : List TypedFunction → List ℤ
  constants_of_text functions = constants_standing (flat_map (in_function source) (definitions_in functions))

  one-more : (functions : List TypedFunction) (f : TypedFunction)
      → constants_standing (flat_map (in_function source) (functions ++ f ∷ [])) ≡ constants_standing (flat_map (in_function source) functions) ++ constants_standing (in_function source f)
  one-more functions f =
      ap constants_standing (flat_map-append (in_function source) functions (f ∷ [])) ∙ standing-append (flat_map (in_function source) functions) (in_function source f ++ [])
      ∙ ap (λ (l : List _). constants_standing (flat_map (in_function source) functions) ++ constants_standing l) (append-nil (in_function source f))

  body-stands : (s : Source) (number : ℕ) (g : Function) (body : Option Block) (names : Names) (t : TypedFunction) → slice_get s.functions number ≡ Some t → (is_some body ≡ true → is_some t.body ≡ false)
      → Below g.name.at.tok s.functions → BodySame source body → Near names s.here → Sound (seen_in_body (after_parameters names g.params) g body)
      → constants_of_text (after_body s number g body).functions ≡ constants_of_text s.functions ++ values (seen_in_body (after_parameters names g.params) g body)
  body-stands s number g None names t stands bare below same near p = sym (append-nil (constants_of_text s.functions))
  body-stands s number g (Some body) names t stands bare below same near p =
      let params = parameters_of s.here number g.params in
      let one : TypedFunction = defined g params.numbers (body_of s number g body).value in
      ap constants_of_text (defining-set s.functions number t one stands)
      ∙ ap (λ (l : List TypedFunction). constants_standing (flat_map (in_function source) l)) (defined-last s.functions number t one stands (bare refl) refl below)
      ∙ one-more (definitions_in s.functions) one
      ∙ ap (λ (l : List ℤ). constants_of_text s.functions ++ l)
      (same (after_parameters names g.params) params.after (inside_of number g) (body_spot g) (record { in_loop = false; gives = g.gives }) refl (parameters-near names s.here number g.params near) p).is

  -- where the parameters and the body of a function are seen
  function-stands : (s : Source) (names : Names) (before : List (Known Declaration)) (item : ℕ) (g : Function) (rest : List Item) → Reached source items is_clean when-clean s names before item (items_of.Function g ∷ rest)
      → Near names s.here → AllSame source (items_of.Function g ∷ rest) → Below g.name.at.tok s.functions
      → constants_of_text (after_function s item g).functions ≡ constants_of_text s.functions ++ values (seen_in_function names before item g)
  function-stands s names before item g rest r near all below =
      let own_names : Names = seen_sources.after_function names item g in
      let t : Steps source items is_clean when-clean s names before item g = steps source items is_clean when-clean s names before item g rest r in
      let entry : Entry source items g.name.name g (number_of s g) (after_declaration s item g).functions (is_defined before g.name.name) = entry-of source items g (state_of names s.here before s.functions) t.tells (r.covers g.name.name) in
      let parts : Sound (seen_in_parameters own_names (is_some g.body) g.params ++ seen_in_body (after_parameters own_names g.params) g g.body) = tail is_clean _ _ (tail is_clean _ _ (earlier is_clean (seen_in_function names before item g) _ r.sounds)) in
      body-stands (after_declaration s item g) (number_of s g) g g.body own_names entry.typed entry.stands (λ whole. entry.complete ∙ not-again (is_some g.body) _ (not-told _ _ t.tells.second) whole)
      (below-or g.name.at.tok (function_number (tie_of s.here g.name.name)) s.functions g below) all.0.body (function-near names s.here item (number_of s g) g near)
      (later is_clean (seen_in_parameters own_names (is_some g.body) g.params) _ parts)
      ∙ ap (λ (l : List TypedFunction). constants_standing (flat_map (in_function source) l) ++ values (seen_in_body (after_parameters own_names g.params) g g.body)) (known-none (function_number (tie_of s.here g.name.name)) s.functions g)
      ∙ ap (λ (l : List ℤ). constants_of_text s.functions ++ l) (sym (values-append (seen_in_parameters own_names (is_some g.body) g.params) _
      ∙ ap (λ (l : List ℤ). l ++ values (seen_in_body (after_parameters own_names g.params) g g.body)) (all.0.parameters own_names (is_some g.body) (earlier is_clean _ _ parts))))

  pub items-stand : (s : Source) (names : Names) (before : List (Known Declaration)) (item : ℕ) (list : List Item) (n : ℕ) → Reached source items is_clean when-clean s names before item list → Near names s.here
      → AllSame source list → Rising n list → Below n s.functions → constants_of_text (after_items s item list).functions ≡ constants_of_text s.functions ++ values (seen_in_items names before item list)
  items-stand s names before item [] n r near all rises below = sym (append-nil (constants_of_text s.functions))
  items-stand s names before item (items_of.Objects o ∷ rest) n r near all rises below =
      let later_names : Names = seen_sources.after_item names item (items_of.Objects o) in
      let more : List Seen = seen_in_items later_names before (item + 1) rest in
      items-stand (after_item s item (items_of.Objects o)) later_names before (item + 1) rest n (next-reached source items is_clean when-clean s names before item (items_of.Objects o) rest r)
      (objects-near names s.here o.decls near) all.1 rises below
      ∙ ap (λ (l : List ℤ). constants_of_text s.functions ++ l)
      (sym (values-append (seen_in_objects names 0 o.decls) more ∙ ap (λ (l : List ℤ). l ++ values more) (all.0.outer names (earlier is_clean _ _ r.sounds))))
  items-stand s names before item (items_of.Function g ∷ rest) n r near all rises below =
      let later_names : Names = seen_sources.after_item names item (items_of.Function g) in
      let after : List (Known Declaration) = functions_after names.items before item (items_of.Function g) in
      let more : List Seen = seen_in_items later_names after (item + 1) rest in
      let own_below : Below g.name.at.tok s.functions = below-more n g.name.at.tok rises.0 s.functions below in
      items-stand (after_function s item g) later_names after (item + 1) rest (suc g.name.at.tok) (next-reached source items is_clean when-clean s names before item (items_of.Function g) rest r)
      (body-near (after_declaration s item g) (number_of s g) g g.body later_names (function-near names s.here item (number_of s g) g near)) all.1 rises.1
      (body-below (after_declaration s item g) (number_of s g) g g.body (below-or g.name.at.tok (function_number (tie_of s.here g.name.name)) s.functions g own_below))
      ∙ ap (λ (l : List ℤ). l ++ values more) (function-stands s names before item g rest r near all own_below)
      ∙ append_assoc (constants_of_text s.functions) (values (seen_in_function names before item g)) (values more)
      ∙ ap (λ (l : List ℤ). constants_of_text s.functions ++ l) (sym (values-append (seen_in_function names before item g) more))
    where
      body-near : (s : Source) (number : ℕ) (g : Function) (body : Option Block) (names : Names) → Near names s.here → Near names (after_body s number g body).here
      body-near s number g None names near = near
      body-near s number g (Some body) names near = near
  items-stand s names before item (items_of.ExternFlag at ∷ rest) n r near all rises below =
      items-stand s names before (item + 1) rest n (next-reached source items is_clean when-clean s names before item (items_of.ExternFlag at) rest r) near all.1 rises below

-- ---- the whole source

pub constants-stand : ConstantsStand
constants-stand program tokens typed spells is =
    let seen_items : List Seen = seen_in_items (names_at_start program) [] 0 program.items in
    let w : Within (Claim typed) own (each a.item program.items) _ = walked (Claim typed) own (λ x. 0) (λ t x same. omega arith) (λ n early late i j r p q. by_rule typed r p q) spells.items.spelled in
    is.tied.constants ∙ distinct [] [] (seen_of program) (λ found. refl)
    ∙ ap (distinct_after []) (values-append seen_items (end_of program ∷ []) ∙ append-nil (values seen_items)
    ∙ sym (items-stand typed program.items (start_of program typed) (names_at_start program) [] 0 program.items 0 (reached program typed is_clean when-clean is.tied (seen-clean program is.faultless))
    (none-declared program.items) (items-same typed program.items w.all) (rising program.items tokens.text 0 tokens.list spells.items.spelled refl) tt)
    ∙ ap (λ (l : List TypedFunction). constants_standing (flat_map (in_function typed) (definitions_in l))) (sym is.tied.functions))
