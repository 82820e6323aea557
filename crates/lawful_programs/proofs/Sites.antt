-- Sites of a lawful tree over scalars are such as code is emitted for.
use Rattle.std.proofs.Common.{◌≡◌, ℕ, ◌≤◌, Bool, true, false, not, if◌then◌else◌, [], ◌∷◌, ◌++◌, length, refl, sym, ap, ◌∙◌, lit≤, arith}
use Rattle.std.specs.Prelude.{◌==◌, ◌&&◌, nat_lt, slice_get, Option, Some, None}
use Rattle.std.proofs.lemmas.Bool.{and_from}
use Rattle.std.proofs.lemmas.Bool.Decides.{nat_tests}
use Rattle.std.proofs.lemmas.Option.{slice_get_within}
use Rattle.sat_base.specs.declared.limits.TheConstants.{TOKENS}
use Rattle.sat_base.specs.declared.name.At.{At}
use Rattle.sat_base.specs.declared.width.Width.{Width}
use Rattle.operator_meaning.specs.declared.object.Site.{Site}
use Rattle.operator_meaning.specs.declared.operator.Op.{Op}
use Rattle.operator_meaning.specs.declared.operator.Op.TheVariants.{Add}
use Rattle.operator_meaning.specs.declared.site.SiteKind.{SiteKind}
use Rattle.operator_meaning.specs.declared.site.SiteKind.TheVariants as kinds
use Rattle.operator_meaning.specs.Table.{arity_of}
use Rattle.weight_table.specs.declared.counted.Counted.TheVariants as counted
use Rattle.weight_table.specs.Weight.{first_weight}
use Rattle.c_typed.specs.declared.call.Callee.TheVariants.{Operator}
use Rattle.c_typed.specs.declared.typed.Typed.{Typed}
use Rattle.ir_arena.specs.Costs.{words_of_site}
use Rattle.ir_arena.specs.Tree.{IrTrees, Operate, end, more}
use Rattle.lawful_sources.specs.Things.{Taken, Call, Mark, due_of, taken_at}
use Rattle.lawful_ir.specs.Positions.{Of, Position, Valued, needs, plainly}
use Rattle.lawful_ir.specs.Walk.{computed, each_stands, marked, numbers_stand, one_operand, operand_position, stands, two_operands}
use Rattle.lawful_ir.proofs.Alike.{never}
use Rattle.code_stacks.specs.Places.{Layout}
use Rattle.expression_code.specs.Code.{own_weight}
use Rattle.expression_code.specs.Straight.{are_straight, count_in, is_numbered, is_site, is_straight, is_wordless}
use Rattle.lawful_programs.proofs.Standing.{Fits, Stand, both, early, in_call, in_number, late, placed, site_there}

-- an operator weighs less than its words may be
weighs_little : (op : Op) → first_weight (counted.Call op) ≤ 128
weighs_little Add = lit≤ tt
weighs_little op = lit≤ tt

weighs : (weight : ℕ) (op : Op) → (weight == first_weight (counted.Call op)) ≡ true → weight ≤ 128
weighs weight op is = let little = weighs_little op in grind (arith, nat_tests)

same_words : (one other : Bool) → one ≡ other → (if one then other else not other) ≡ true
same_words true other is = sym is
same_words false other is = ap not (sym is)

module _ (tables : Typed) (l : Layout) (few : length tables.sites ≤ TOKENS) (wordless : (n : ℕ) (site : Site) → slice_get tables.sites n ≡ Some site → l.is_wordless n ≡ is_wordless site.kind) where
  pub numbered : (at : At) (n : ℕ) (kind : SiteKind) → Fits tables (Mark at (Some n) (Some kind)) → is_numbered l n kind ≡ true
  numbered at n kind fits =
      let found = site_there tables at n kind fits in
      let near : nat_lt n 4294967296 ≡ true = let low = slice_get_within tables.sites n found.0 found.1 in grind (arith, nat_tests) in
      and_from (nat_lt n 4294967296) _ near (same_words (l.is_wordless n) (is_wordless kind) (wordless n found.0 found.1 ∙ ap is_wordless found.2))

  -- ---- operands

  pub counted_alike : (operands : IrTrees) → length (numbers_stand tables operands) ≡ count_in operands
  counted_alike end = refl
  counted_alike (more first rest) = omega (arith, counted_alike rest)

  -- what is known of a site where it is placed, and where its operands stand
  pub record IsSite (site : ℕ) (kind : SiteKind) (operands : IrTrees) (weight : ℕ) : Type 0 where
    pub passed : ℕ → Option (Option Taken)
    pub due : ℕ → Option Width
    pub stand : Stand tables (each_stands tables operands (λ place. Valued (passed place) (due place)) 0)
    pub is : are_straight l operands ≡ true → is_straight l (Operate site kind operands weight) ≡ true
    pub light : own_weight kind weight ≤ words_of_site kind

  module _ (position : Position) (site weight : ℕ) where
    abbrev Plainly : (count : ℕ) → SiteKind → IrTrees → Type 0
    Plainly count kind operands = ((count_in operands == count) ≡ true) × (is_numbered l site kind ≡ true) × Stand tables (each_stands tables operands (λ place. plainly) 0)

    one_there : (kind : SiteKind) (operands : IrTrees) → Stand tables (one_operand tables position site kind weight (numbers_stand tables operands)) → Plainly 1 kind operands
    one_there kind (more part end) stand =
        let here = in_number tables position (marked tables site kind ∷ stands tables part plainly) (placed tables (weight == 0) _ stand).1 in
        (refl, numbered _ site kind here.0, both tables (stands tables part plainly) [] here.1 tt)
    one_there kind operands stand = absurd stand.0

    two_there : (kind : SiteKind) (operands : IrTrees) → Stand tables (two_operands tables position site kind weight (numbers_stand tables operands)) → Plainly 2 kind operands
    two_there kind (more first (more second end)) stand =
        let left = stands tables first plainly in
        let right = stands tables second plainly in
        let here = in_number tables position (left ++ (marked tables site kind ∷ right)) (placed tables (weight == 0) _ stand).1 in
        let after = late tables left (marked tables site kind ∷ right) here in
        (refl, numbered _ site kind after.0, both tables left (right ++ []) (early tables left (marked tables site kind ∷ right) here) (both tables right [] after.1 tt))
    two_there kind operands stand = absurd stand.0

    -- a site that is plain arithmetic
    plain_site : (count : ℕ) (kind : SiteKind) (operands : IrTrees) → Plainly count kind operands → own_weight kind weight ≤ words_of_site kind
        → ((((count_in operands == count) && is_numbered l site kind) && are_straight l operands) ≡ true → is_straight l (Operate site kind operands weight) ≡ true) → IsSite site kind operands weight
    plain_site count kind operands there light is =
        record { passed = λ place. None; due = λ place. None; stand = there.2; is = λ straight. is (and_from _ _ (and_from (count_in operands == count) (is_numbered l site kind) there.0 there.1) straight); light = light }

    pub site_is : (kind : SiteKind) (operands : IrTrees) → is_site kind ≡ true
        → Stand tables (computed tables position site kind weight (numbers_stand tables operands) (each_stands tables operands (operand_position tables kind) 0)) → IsSite site kind operands weight
    site_is (kinds.Call op) operands form stand =
        let things = marked tables site (kinds.Call op) ∷ each_stands tables operands (operand_position tables (kinds.Call op)) 0 in
        let call = placed tables (weight == first_weight (counted.Call op)) _ stand in
        let here = in_call tables position (Of (Call (Operator op) (length (numbers_stand tables operands)) (needs position)) ∷ things) call.1 in
        let count : (count_in operands == arity_of op) ≡ true = ap (λ n. n == arity_of op) (sym (counted_alike operands)) ∙ here.0.counts in
        record {
          passed = λ place. Some (taken_at tables (Operator op) place);
          due = λ place. due_of (taken_at tables (Operator op) place);
          stand = here.1.1;
          is = λ straight. and_from _ _ (and_from (count_in operands == arity_of op) (is_numbered l site (kinds.Call op)) count (numbered _ site (kinds.Call op) here.1.0)) straight;
          light = weighs weight op call.0;
        }
    site_is kinds.Sum operands form stand = plain_site 2 kinds.Sum operands (two_there kinds.Sum operands stand) (lit≤ tt) (λ is. is)
    site_is kinds.Difference operands form stand = plain_site 2 kinds.Difference operands (two_there kinds.Difference operands stand) (lit≤ tt) (λ is. is)
    site_is kinds.Product operands form stand = plain_site 2 kinds.Product operands (two_there kinds.Product operands stand) (lit≤ tt) (λ is. is)
    site_is kinds.Opposite operands form stand = plain_site 1 kinds.Opposite operands (one_there kinds.Opposite operands stand) (lit≤ tt) (λ is. is)
    site_is kind operands form stand = never form
