-- What passes a test everywhere in a source passes one everywhere in its tree, where that test is kept.
use Rattle.std.proofs.Common.{◌≡◌, ℕ, List, [], ◌∷◌, Bool, true, false, refl, sym, ◌∙◌, subst}
use Rattle.std.specs.Prelude.{◌&&◌, ℤ, Option, Some, None}
use Rattle.std.specs.List.{list_all}
use Rattle.sat_base.specs.declared.name.At.{At}
use Rattle.sat_base.specs.declared.width.Width.{Width}
use Rattle.operator_meaning.specs.declared.site.SiteKind.{SiteKind}
use Rattle.c_typed.specs.declared.call.Callee.{Callee}
use Rattle.c_typed.specs.declared.typed.Typed.{Typed}
use Rattle.ir_arena.specs.declared.ir.Ir.{Ir}
use Rattle.lawful_ir.specs.Built.{IsTreeOf}
use Rattle.typed_meaning.specs.Expressions.{site_at}
use Rattle.lawful_sources.specs.Lawful.{IsLawful, Everywhere}
use Rattle.lawful_sources.specs.Rows.{conversion_stands, place_fits, mark_is_numbered, arguments_are_counted, callee_is_defined}
use Rattle.lawful_sources.specs.Statements.{in_source}
use Rattle.lawful_sources.specs.Things.{Marks, Taken, Use, Thing, Place, Call, Argument, Mark, Conversion, Begins, Constant, Statement, Leave, Return}
use Rattle.lawful_sources.proofs.Passing.{Each, none, next, joined}
use Rattle.lawful_ir.specs.Lawful.{tables_of, stands_in, EverywhereIn}
use Rattle.lawful_ir.specs.Positions.{TreeThing, things_of, is_placed, turned}
use Rattle.lawful_ir.specs.Walk.{site_token}
use Rattle.lawful_ir.proofs.Alike.{head, tail, fine, all_of, converts, renamed}
use Rattle.lawful_ir.proofs.Wholes.{numbers, everywhere, stands-are, defined_things}

both : (p q : Bool) → p ≡ true → q ≡ true → (p && q) ≡ true
both true q one other = other
both false q one other = one

both-pass : {A : Type 0} (test other : A → Bool) (list : List A) → Each test list → Each other list → Each (λ x. test x && other x) list
both-pass test other [] p q = none (λ x. test x && other x)
both-pass test other (x ∷ list) p q =
    next (λ x. test x && other x) x list (both (test x) (other x) (head test x list p) (head other x list q)) (both-pass test other list (tail test x list p) (tail other x list q))

-- each thing of a lawful source stands so in its tree
pub all-fine : (typed : Typed) → IsLawful typed → Each (fine typed) (in_source typed)
all-fine typed lawful =
    let calls : Each (λ x. arguments_are_counted typed x && callee_is_defined typed x) (in_source typed) =
    both-pass (arguments_are_counted typed) (callee_is_defined typed) (in_source typed) (record { all = lawful.arguments_are_counted }) (record { all = lawful.callees_are_defined }) in
    let marks : Each (λ x. mark_is_numbered typed x && (arguments_are_counted typed x && callee_is_defined typed x)) (in_source typed) =
    both-pass (mark_is_numbered typed) _ (in_source typed) (record { all = lawful.marks_are_numbered }) calls in
    both-pass conversion_stands _ (in_source typed) (record { all = lawful.conversions_stand }) (both-pass (place_fits typed) _ (in_source typed) (record { all = lawful.places_fit }) marks)

module _ (typed : Typed) (ir : Ir) (lawful : IsLawful typed) (is : IsTreeOf typed ir) where
  -- what passes in the source passes in the tree
  pub record Keeps (test other : Thing → Bool) : Type 0 where
    pub places : (object : ℕ) (marks : Marks) (aim : Use) → test (Place object marks aim) ≡ true → other (Place object marks aim) ≡ true
    pub calls : (callee : Callee) (count : ℕ) (is_needed : Bool) → fine typed (Call callee count is_needed) ≡ true → test (Call callee count is_needed) ≡ true
        → other (Call (renamed (numbers typed ir lawful is) callee) count is_needed) ≡ true
    pub arguments : (is_view : Bool) (taken : Option Taken) → test (Argument is_view taken) ≡ true → other (Argument is_view taken) ≡ true
    pub marks : (at : At) (site : Option ℕ) (kind : SiteKind) → test (Mark at site (Some kind)) ≡ true → other (Mark (site_token ir.sites (site_at site)) (Some (site_at site)) (Some kind)) ≡ true
    pub conversions : (stands due : Option Width) → test (Conversion stands due) ≡ true → other (Conversion stands due) ≡ true
    pub begins : (object : ℕ) (value : Option (Option ℤ)) → test (Begins object value) ≡ true → other (Begins object value) ≡ true
    pub constants : (value : ℤ) → test (Constant value) ≡ true → other (Constant value) ≡ true
    pub statements : test Statement ≡ true → other Statement ≡ true
    pub leaves : (in_loop : Bool) → test (Leave in_loop) ≡ true → other (Leave in_loop) ≡ true
    pub returns : (has_value gives : Bool) → test (Return has_value gives) ≡ true → other (Return has_value gives) ≡ true

  alone : (other : Thing → Bool) (x : Thing) → other x ≡ true → Each other (x ∷ [])
  alone other x p = next other x [] p (none other)

  turned-pass : (test other : Thing → Bool) → Keeps test other → (stands due : Option Width) → test (Conversion stands due) ≡ true → Each other (things_of (turned stands due))
  turned-pass test other keeps None None p = none other
  turned-pass test other keeps None (Some due) p = alone other _ (keeps.conversions None (Some due) p)
  turned-pass test other keeps (Some width) due p = alone other _ (keeps.conversions (Some width) due p)

  keeps-pass : (test other : Thing → Bool) → Keeps test other → (x : Thing) → fine typed x ≡ true → test x ≡ true → Each other (things_of (converts (tables_of ir) (numbers typed ir lawful is) x))
  keeps-pass test other keeps (Place object marks aim) f p = alone other _ (keeps.places object marks aim p)
  keeps-pass test other keeps (Call callee count is_needed) f p = alone other _ (keeps.calls callee count is_needed f p)
  keeps-pass test other keeps (Argument is_view taken) f p = alone other _ (keeps.arguments is_view taken p)
  keeps-pass test other keeps (Mark at site None) f p = none other
  keeps-pass test other keeps (Mark at site (Some kind)) f p = alone other _ (keeps.marks at site kind p)
  keeps-pass test other keeps (Conversion stands due) f p = turned-pass test other keeps stands due p
  keeps-pass test other keeps (Begins object value) f p = alone other _ (keeps.begins object value p)
  keeps-pass test other keeps (Constant value) f p = alone other _ (keeps.constants value p)
  keeps-pass test other keeps Statement f p = alone other _ (keeps.statements p)
  keeps-pass test other keeps (Leave in_loop) f p = alone other _ (keeps.leaves in_loop p)
  keeps-pass test other keeps (Return has_value gives) f p = alone other _ (keeps.returns has_value gives p)

  pub kept : (test other : Thing → Bool) → Keeps test other → Everywhere typed test → EverywhereIn ir other
  kept test other keeps all = everywhere typed ir lawful is test other (keeps-pass test other keeps) (all-fine typed lawful) all

  -- a test that no number is part of
  pub kept-alike : (test : Thing → Bool) → ((callee other : Callee) (count : ℕ) (is_needed : Bool) → test (Call callee count is_needed) ≡ test (Call other count is_needed))
      → ((at other : At) (site number : Option ℕ) (kind : SiteKind) → test (Mark at site (Some kind)) ≡ test (Mark other number (Some kind))) → Everywhere typed test → EverywhereIn ir test
  kept-alike test calls marks all = kept test test (record {
    places = λ object marks aim p. p;
    calls = λ callee count is_needed f p. sym (calls callee _ count is_needed) ∙ p;
    arguments = λ is_view taken p. p;
    marks = λ at site kind p. sym (marks at _ site _ kind) ∙ p;
    conversions = λ stands due p. p;
    begins = λ object value p. p;
    constants = λ value p. p;
    statements = λ p. p;
    leaves = λ in_loop p. p;
    returns = λ has_value gives p. p;
  }) all

  -- ---- nodes

  placed : (x : Thing) → Each is_placed (converts (tables_of ir) (numbers typed ir lawful is) x)
  placed (Mark at site None) = none is_placed
  placed (Mark at site (Some kind)) = next is_placed _ [] refl (none is_placed)
  placed (Conversion None None) = none is_placed
  placed (Conversion None (Some due)) = next is_placed _ [] refl (none is_placed)
  placed (Conversion (Some width) due) = next is_placed _ [] refl (none is_placed)
  placed (Place object marks aim) = next is_placed _ [] refl (none is_placed)
  placed (Call callee count is_needed) = next is_placed _ [] refl (none is_placed)
  placed (Argument is_view taken) = next is_placed _ [] refl (none is_placed)
  placed (Begins object value) = next is_placed _ [] refl (none is_placed)
  placed (Constant value) = next is_placed _ [] refl (none is_placed)
  placed Statement = next is_placed _ [] refl (none is_placed)
  placed (Leave in_loop) = next is_placed _ [] refl (none is_placed)
  placed (Return has_value gives) = next is_placed _ [] refl (none is_placed)

  all-placed : (list : List Thing) → Each is_placed (all_of typed (tables_of ir) (numbers typed ir lawful is) list)
  all-placed [] = none is_placed
  all-placed (x ∷ list) = joined is_placed _ _ (placed x) (all-placed list)

  pub nodes-placed : list_all is_placed (stands_in ir) ≡ true
  nodes-placed = subst (λ (l : List TreeThing). list_all is_placed l ≡ true) (sym (stands-are typed ir lawful is (all-fine typed lawful))) (all-placed (defined_things typed ir lawful is)).all
