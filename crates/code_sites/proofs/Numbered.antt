-- The sites that stand in the bodies of a lawful tree are those of its list, each of them once.
use Rattle.std.proofs.Common.{◌≡◌, ◌<◌, ℕ, List, [], ◌∷◌, ◌++◌, true, length, get_or, map, nat_eq, IsPermutation, refl, sym, ap, ◌∙◌, subst, arith}
use Rattle.std.specs.Prelude.{◌==◌, flat_map, slice_get, Option, Some, None, option_map}
use Rattle.std.specs.List.Sorted.{IsStrictlyIncreasing}
use Rattle.std.specs.List.{All, list_all, position_or_len, range_with_len}
use Rattle.std.proofs.lemmas.Bool.{eq-eqb, eqb-true}
use Rattle.std.proofs.lemmas.Bool.Decides.{nat_tests}
use Rattle.std.proofs.lemmas.List.{ext_get_or, get_or-map, length-map, map-append}
use Rattle.std.proofs.lemmas.List.Elements.{All-append, All-cons, All-drop, All-head, All-nil, All-tail, All-take}
use Rattle.std.proofs.Math.Seq.{drop-append_seam, take-append_seam}
use Rattle.std.proofs.lemmas.List.FromFn.{get_or-range_with_len, length-range_with_len}
use Rattle.std.proofs.lemmas.List.Kept.{AllPairs-from_increasing}
use Rattle.std.proofs.lemmas.List.Sorted.{All-permutation, IsPermutation-map, IsPermutation-sym, IsPermutation-trans}
use Rattle.std.proofs.lemmas.List.Sums.{position_or_len_is}
use Rattle.std.proofs.lemmas.Simd.{map-map}
use Rattle.std.proofs.lemmas.Option.{get_or_from_slice_get, slice_get_within, slice_get-map}
use Rattle.sat_base.specs.declared.name.At.{At}
use Rattle.operator_meaning.specs.declared.object.Site.{Site}
use Rattle.operator_meaning.specs.declared.site.SiteKind.{SiteKind}
use Rattle.c_typed.specs.declared.typed.Typed.{Typed}
use Rattle.ir_arena.specs.declared.ir.Ir.{Ir}
use Rattle.ir_arena.specs.Placed.{whole_of}
use Rattle.ir_arena.specs.Tree.{TreeFunction}
use Rattle.lawful_sources.specs.Lawful.{at_of, token_of}
use Rattle.lawful_sources.specs.Rows.{HasKind, IsOfKind, is_of, mark_is_numbered, sites_standing, standing_site}
use Rattle.lawful_sources.specs.Things.{Thing, Mark}
use Rattle.lawful_sources.proofs.Passing.{Each}
use Rattle.lawful_ir.specs.Lawful.{IsLawfulTree, stands_in, tables_of, things_in}
use Rattle.lawful_ir.specs.Walk.{function_stands}
use Rattle.lawful_ir.proofs.Alike.{earlier, head, later, left, never, tail}
use Rattle.code_pieces.specs.declared.piece.Entry.{Entry}
use Rattle.code_entries.specs.Sites.{sites_of}
use Rattle.code_sites.specs.Laws.{BodiesHaveOperands, BodiesHaveSites, SitesAreNumbered}
use Rattle.code_sites.specs.Operands.{has_operands}
use Rattle.code_sites.specs.Sites.{IsListed, entries_in, numbers_in}
use Rattle.code_sites.proofs.Bodies.{in-part}
use Rattle.code_sites.proofs.Marks.{Sited, all-fit, entry_of, fits, joined, nothing}
use Rattle.code_sites.proofs.Sited.{of-tree}

-- in the bodies of several functions
of-bodies : (tables : Typed) (functions : List TreeFunction)
    → Sited tables (flat_map (function_stands tables) functions) (flat_map (λ (function : TreeFunction). sites_of function.body) functions) (list_all (λ (function : TreeFunction). has_operands function.body) functions)
of-bodies tables [] = nothing
of-bodies tables (first ∷ rest) = joined (of-tree tables first.body _ refl) (of-bodies tables rest)

-- ---- the number of a site, by its token

module _ (sites : List Site) where
  abbrev tokens : List ℕ
  tokens = map token_of sites

  abbrev place_of : ℕ → ℕ
  place_of token = position_or_len (nat_eq token) tokens

  abbrev number_of : At → ℕ
  number_of at = place_of at.tok

  module _ (up : IsStrictlyIncreasing tokens) where
    own-number : (place : ℕ) → place < length tokens → place_of (get_or tokens place 0) ≡ place
    own-number place low = position_or_len_is (nat_eq (get_or tokens place 0)) tokens place 0 (omega (arith, low))
        (λ k less. let before = AllPairs-from_increasing tokens up k place 0 less low in grind (arith, nat_tests)) (λ within. eq-eqb _ _ refl)

    all-numbers : map place_of tokens ≡ range_with_len 0 (length sites)
    all-numbers =
        let long : length (map place_of tokens) ≡ length sites = length-map tokens place_of ∙ length-map sites token_of in
        ext_get_or 0 _ _ (long ∙ sym (length-range_with_len 0 (length sites))) (λ i low.
        let within : i < length tokens = omega (arith, low, length-map tokens place_of) in
        get_or-map place_of tokens i 0 0 within ∙ omega (arith, own-number i within, get_or-range_with_len 0 (length sites) i 0 (omega (arith, low, long))))

    site-number : (at : At) (number : ℕ) (found : Option Site) → slice_get sites number ≡ found → is_of at found ≡ true → number_of at ≡ number
    site-number at number None there is = never is
    site-number at number (Some site) there is =
        let token : slice_get tokens number ≡ Some site.tok = slice_get-map token_of sites number ∙ ap (option_map token_of) there in
        let same : get_or tokens number 0 ≡ at.tok = get_or_from_slice_get tokens number site.tok 0 token ∙ eqb-true site.tok at.tok (left (site.tok == at.tok) _ is) in
        ap place_of (sym same) ∙ own-number number (slice_get_within tokens number site.tok token)

-- ---- things

module _ (tables : Typed) where
  thing-number : IsStrictlyIncreasing (tokens tables.sites) → (x : Thing) → mark_is_numbered tables x ≡ true → map (number_of tables.sites) (standing_site x) ≡ numbers_in (entry_of x)
  thing-number up (Mark at None (Some kind)) is = never is
  thing-number up (Mark at (Some number) (Some kind)) is = ap (λ (n : ℕ). n ∷ []) (site-number tables.sites up at number _ refl is)
  thing-number up x is = refl

  thing-numbers : IsStrictlyIncreasing (tokens tables.sites) → (list : List Thing) → Each (mark_is_numbered tables) list → map (number_of tables.sites) (sites_standing list) ≡ numbers_in (flat_map entry_of list)
  thing-numbers up [] each = refl
  thing-numbers up (x ∷ list) each =
      map-append (number_of tables.sites) (standing_site x) (sites_standing list)
      ∙ rw (thing-number up x (head (mark_is_numbered tables) x list each), thing-numbers up list (tail (mark_is_numbered tables) x list each))
      (sym (map-append (λ (entry : Entry). entry.site) (entry_of x) (flat_map entry_of list)))

  in-list : (number : ℕ) (kind : SiteKind) (found : Option Site) → slice_get tables.sites number ≡ found → HasKind found (Some kind) → IsListed tables.sites (record { site = number; kind = kind })
  in-list number kind None there is = absurd is
  in-list number kind (Some site) there is = record { site = site; there = there; kind = is }

  thing-listed : (x : Thing) → IsOfKind tables x → All (IsListed tables.sites) (entry_of x)
  thing-listed (Mark at (Some number) (Some kind)) is = All-cons (IsListed tables.sites) _ [] (in-list number kind _ refl is) (All-nil (IsListed tables.sites))
  thing-listed x is = All-nil (IsListed tables.sites)

  things-listed : (list : List Thing) → All (IsOfKind tables) list → All (IsListed tables.sites) (flat_map entry_of list)
  things-listed [] all = All-nil (IsListed tables.sites)
  things-listed (x ∷ list) all =
      All-append (IsListed tables.sites) (entry_of x) _ (thing-listed x (All-head (IsOfKind tables) x list all)) (things-listed list (All-tail (IsOfKind tables) x list all))

-- ---- the whole

module _ (ir : Ir) (lawful : IsLawfulTree ir) where
  things-fit : Each (fits (tables_of ir)) (stands_in ir)
  things-fit = all-fit (tables_of ir) (stands_in ir) (record { all = lawful.nodes_are_placed }) (record { all = lawful.arguments_are_counted })

  same-entries : IsPermutation (flat_map entry_of (things_in ir)) (entries_in ir)
  same-entries = (of-bodies (tables_of ir) (whole_of ir).functions).are things-fit

  numbered : IsPermutation (numbers_in (flat_map entry_of (things_in ir))) (range_with_len 0 (length ir.sites))
  numbered =
      subst (λ (l : List ℕ). IsPermutation l (range_with_len 0 (length ir.sites))) (thing-numbers (tables_of ir) lawful.sites_are_in_order (things_in ir) (record { all = lawful.marks_are_numbered }))
      (subst (IsPermutation (map (number_of ir.sites) (sites_standing (things_in ir))))
      (map-map (number_of ir.sites) at_of ir.sites ∙ sym (map-map (place_of ir.sites) token_of ir.sites) ∙ all-numbers ir.sites lawful.sites_are_in_order)
      (IsPermutation-map (number_of ir.sites) _ _ lawful.sites_stand_once))

pub sites-are-numbered : SitesAreNumbered
sites-are-numbered ir lawful =
    let entries = same-entries ir lawful in
    record {
      numbers = IsPermutation-trans _ _ _ (IsPermutation-sym _ _ (IsPermutation-map (λ (entry : Entry). entry.site) _ _ entries)) (numbered ir lawful);
      listed = All-permutation (IsListed ir.sites) _ _ entries (things-listed (tables_of ir) (things_in ir) lawful.kinds_agree);
    }

pub bodies-have-sites : BodiesHaveSites
bodies-have-sites ir lawful =
    let Listed = IsListed ir.sites in
    in-part (All Listed) (λ xs ys all. rw take-append_seam at (All-take Listed (length xs) (xs ++ ys) all)) (λ xs ys all. rw drop-append_seam at (All-drop Listed (length xs) (xs ++ ys) all))
    (λ (function : TreeFunction). sites_of function.body) (whole_of ir).functions (sites-are-numbered ir lawful).listed

pub bodies-have-operands : BodiesHaveOperands
bodies-have-operands ir lawful number function there =
    let test = fits (tables_of ir) in
    (of-tree (tables_of ir) function.body _ refl).passed
    (in-part (Each test) (earlier test) (later test) (function_stands (tables_of ir)) (whole_of ir).functions (things-fit ir lawful) number function there)
