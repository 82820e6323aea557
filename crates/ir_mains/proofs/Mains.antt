-- The main of a tree is that of its source.
use Rattle.std.proofs.Common.{◌≡◌, ℕ, List, true, get_or, sym, ap, ◌∙◌}
use Rattle.std.proofs.lemmas.Bool.{and_from}
use Rattle.std.proofs.lemmas.List.Folds.{Any-from_list_any}
use Rattle.std.proofs.lemmas.List.Quantifiers.{position-Some}
use Rattle.std.proofs.lemmas.Map.Keys.{any_passes_from_place}
use Rattle.std.proofs.lemmas.Option.{slice_get-map, slice_get-get_or, same_Some}
use Rattle.std.specs.Prelude.{slice_get, unwrap_or, Option, Some, option_map, is_some, codes}
use Rattle.std.specs.Str.{bytes_eq}
use Rattle.c_typed.specs.declared.typed.Typed.{Typed}
use Rattle.c_typed.specs.declared.typed.TypedFunction.{TypedFunction}
use Rattle.call_structure.specs.Reaching.{IsDefined}
use Rattle.typed_meaning.specs.Observed.{is_main}
use Rattle.ir_arena.specs.declared.ir.Ir.{Ir}
use Rattle.ir_arena.specs.declared.ir.IrFunction.{IrFunction}
use Rattle.ir_arena.specs.Tree.{TreeFunction, IrWhole}
use Rattle.lawful_ir.specs.Built.{IsTreeOf}
use Rattle.whole_trees.specs.Sources.{number_in, function_at, nameless, numbers_defined}
use Rattle.source_agreement.proofs.Numbers.{there}
use Rattle.lawful_sources.specs.Lawful.{IsLawful, is_good_main}
use Rattle.lawful_sources.specs.Rows.{is_main as is_named_main, is_called_main}
use Rattle.lawful_trees.proofs.Functions.{Main, main-of}
use Rattle.lawful_ir.specs.Lawful.{table_function, tables_of}
use Rattle.lawful_ir.proofs.Alike.{left, right}
use Rattle.lawful_ir.proofs.Wholes.{functions-are, table-there}
use Rattle.ir_mains.specs.Laws.{HasMain, MainIsMain}
use Rattle.ir_mains.proofs.Ordered.{placed-at, body-defined}

module _ (typed : Typed) (ir : Ir) (lawful : IsLawful typed) (is : IsTreeOf typed ir) where
  -- a function that has a body, as it is in the tree
  record Stands (number : ℕ) (f : TypedFunction) : Type 0 where
    own : IrFunction
    there : slice_get ir.functions (number_in is.definitions number) ≡ Some own
    named : own.name ≡ f.name
    params : own.params ≡ f.params
    gives : own.gives ≡ f.gives

  abbrev name_of : ℕ → List ℕ
  name_of number = (function_at typed.functions number).name

  name-at : (number : ℕ) (own : IrFunction) → IsDefined typed.functions number → slice_get ir.functions (number_in is.definitions number) ≡ Some own → own.name ≡ name_of number
  name-at number own defined at =
      let k : ℕ = number_in is.definitions number in
      same_Some own.name (name_of number)
      (sym (slice_get-map (λ (function : IrFunction). function.name) ir.functions k ∙ ap (option_map (λ (function : IrFunction). function.name)) at)
      ∙ ap (λ (l : List (List ℕ)). slice_get l k) is.is.names ∙ slice_get-map name_of (numbers_defined is.definitions) k ∙ ap (option_map name_of) (placed-at typed is.definitions is.are lawful number defined))

  stands : (number : ℕ) (f : TypedFunction) → slice_get typed.functions number ≡ Some f → is_some f.body ≡ true → Stands number f
  stands number f at whole =
      let name = body-defined typed is.definitions is.are lawful number f at whole in
      let defined : IsDefined typed.functions number = (name.0, record { function = f; there = at; defined = name.1 }) in
      let found = there typed is.definitions is.are number defined in
      let g = table-there typed ir lawful is (number_in is.definitions number) _ ir.functions (ap (λ (l : List TreeFunction). slice_get l (number_in is.definitions number)) (functions-are typed ir lawful is) ∙ found.is) in
      record {
        own = g.0;
        there = g.1;
        named = name-at number g.0 defined g.1 ∙ ap (λ (o : Option TypedFunction). (unwrap_or o nameless).name) at;
        params = ap (λ (t : TreeFunction). t.params) g.2;
        gives = ap (λ (t : TreeFunction). t.gives) g.2;
      }

  -- in the tables of the tree
  table-at : (number : ℕ) (f : TypedFunction) (s : Stands number f) → slice_get (tables_of ir).functions (number_in is.definitions number) ≡ Some (table_function s.own)
  table-at number f s = slice_get-map table_function ir.functions (number_in is.definitions number) ∙ ap (option_map table_function) s.there

  good-kept : (number : ℕ) (f : TypedFunction) (s : Stands number f) → is_good_main f ≡ true → is_good_main (table_function s.own) ≡ true
  good-kept number f s p = rw (s.named, s.params, s.gives) (and_from (is_named_main f) _ (left (is_named_main f) _ p) (right (is_some f.body) _ (right (is_named_main f) _ p)))

pub has-main : HasMain
has-main typed ir lawful is =
    let found = Any-from_list_any is_good_main typed.functions lawful.has_main in
    let f : TypedFunction = found.1 in
    let at : slice_get typed.functions found.0 ≡ Some f = slice_get-get_or typed.functions found.0 f found.2 ∙ ap Some found.3 in
    let s : Stands typed ir lawful is found.0 f = stands typed ir lawful is found.0 f at (left (is_some f.body) _ (right (is_named_main f) _ found.4)) in
    any_passes_from_place is_good_main (tables_of ir).functions (number_in is.definitions found.0) (table_function s.own) (table-at typed ir lawful is found.0 f s) (good-kept typed ir lawful is found.0 f s found.4)

-- the first function with a body that is called main
pub main-is-main : MainIsMain
main-is-main typed ir lawful is =
    let main : Main typed.functions = main-of typed.functions lawful.has_main in
    let first = position-Some is_main typed.functions main.number nameless main.found in
    let f : TypedFunction = get_or typed.functions main.number nameless in
    let s : Stands typed ir lawful is main.number f = stands typed ir lawful is main.number f (slice_get-get_or typed.functions main.number nameless first.0) (right (is_named_main f) _ first.1) in
    let number : ir.main ≡ number_in is.definitions main.number = ap (λ (w : IrWhole). w.main) is.is.tree ∙ ap (λ (o : Option ℕ). number_in is.definitions (unwrap_or o 0)) main.found in
    ap (λ (k : ℕ). is_called_main (slice_get (tables_of ir).functions k)) number ∙ ap is_called_main (table-at typed ir lawful is main.number f s)
    ∙ ap (λ (n : List ℕ). bytes_eq n (codes "main")) s.named ∙ left (is_named_main f) _ first.1
