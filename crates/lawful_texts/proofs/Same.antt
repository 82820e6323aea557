-- Relational constants: those that stand among things are those that are seen, in the same order.
use Rattle.std.proofs.Common.{◌≡◌, List, [], ◌∷◌, ◌++◌, Bool, true, false, map, refl, sym, ap, ◌∙◌}
use Rattle.std.specs.Prelude.{ℤ, negsuc, neg_ℤ, if◌then◌else◌, Option, Some, None}
use Rattle.std.specs.Ordering.{int_eq}
use Rattle.std.proofs.lemmas.List.{append_assoc, append-nil}
use Rattle.sat_base.specs.declared.name.At.{At}
use Rattle.c_seen.specs.declared.seen.Need.{Need}
use Rattle.c_seen.specs.declared.seen.Need.TheVariants as needs
use Rattle.c_seen.specs.declared.seen.Seen.{Seen}
use Rattle.c_seen.specs.declared.seen.Seen.TheVariants as seen
use Rattle.c_seen.specs.Expressions as sees
use Rattle.c_seen.specs.Expressions.{no_view}
use Rattle.lawful_sources.specs.Things.{Thing, Constant}
use Rattle.lawful_sources.specs.Expressions.{opposite}
use Rattle.lawful_sources.specs.Lawful.{standing_constant, constants_standing}

abbrev pub value_in : Seen → List ℤ
value_in (seen.Constant at value) = value ∷ []
value_in s = []

-- the values of the constants that are seen
abbrev pub values : List Seen → List ℤ
values [] = []
values (s ∷ rest) = value_in s ++ values rest

pub values-append : (xs ys : List Seen) → values (xs ++ ys) ≡ values xs ++ values ys
values-append [] ys = refl
values-append (x ∷ xs) ys = ap (λ (l : List ℤ). value_in x ++ l) (values-append xs ys) ∙ sym (append_assoc (value_in x) (values xs) (values ys))

pub standing-append : (xs ys : List Thing) → constants_standing (xs ++ ys) ≡ constants_standing xs ++ constants_standing ys
standing-append [] ys = refl
standing-append (x ∷ xs) ys = ap (λ (l : List ℤ). standing_constant x ++ l) (standing-append xs ys) ∙ sym (append_assoc (standing_constant x) (constants_standing xs) (constants_standing ys))

pub record Same (things : List Thing) (list : List Seen) : Type 0 where
  pub is : constants_standing things ≡ values list

pub turned : (things others : List Thing) (list seen : List Seen) → things ≡ others → list ≡ seen → Same others seen → Same things list
turned things others list seen p q same = record { is = ap constants_standing p ∙ same.is ∙ sym (ap values q) }

pub nothing : Same [] []
nothing = record { is = refl }

pub more_things : (x : Thing) (things : List Thing) (list : List Seen) → standing_constant x ≡ [] → Same things list → Same (x ∷ things) list
more_things x things list none same = record { is = ap (λ (l : List ℤ). l ++ constants_standing things) none ∙ same.is }

pub more_seen : (s : Seen) (things : List Thing) (list : List Seen) → value_in s ≡ [] → Same things list → Same things (s ∷ list)
more_seen s things list none same = record { is = same.is ∙ ap (λ (l : List ℤ). l ++ values list) (sym none) }

pub joined : (xs ys : List Thing) (ss ts : List Seen) → Same xs ss → Same ys ts → Same (xs ++ ys) (ss ++ ts)
joined xs ys ss ts p q =
    record { is = standing-append xs ys ∙ ap (λ (l : List ℤ). l ++ constants_standing ys) p.is ∙ ap (λ (l : List ℤ). values ss ++ l) q.is ∙ sym (values-append ss ts) }

-- what is seen, and does not stand, has no constant
pub passed : (things : List Thing) (ss ts : List Seen) → values ss ≡ [] → Same things ts → Same things (ss ++ ts)
passed things ss ts none same = record { is = same.is ∙ ap (λ (l : List ℤ). l ++ values ts) (sym none) ∙ sym (values-append ss ts) }

pub none-seen : (ss : List Seen) → values ss ≡ [] → Same [] ss
none-seen ss none = record { is = sym none }

pub both-none : (ss ts : List Seen) → values ss ≡ [] → values ts ≡ [] → values (ss ++ ts) ≡ []
both-none ss ts p q = values-append ss ts ∙ ap (λ (l : List ℤ). l ++ values ts) p ∙ q

pub no-view : (need : Need) → values (no_view need) ≡ []
no-view needs.Number = refl
no-view needs.Target = refl
no-view (needs.View view first) = refl
no-view needs.Nothing = refl

-- ---- the constants of a relation

constants-stand : (constants : List ℤ) → constants_standing (map Constant constants) ≡ constants
constants-stand [] = refl
constants-stand (value ∷ rest) = ap (λ (l : List ℤ). value ∷ l) (constants-stand rest)

pub constants-same : (test : Bool) (left right : List ℤ) (ss ts : List Seen) → left ≡ values ss → right ≡ values ts → Same (map Constant (if test then left ++ right else [])) (if test then ss ++ ts else [])
constants-same true left right ss ts p q =
    record { is = constants-stand (left ++ right) ∙ ap (λ (l : List ℤ). l ++ right) p ∙ ap (λ (l : List ℤ). values ss ++ l) q ∙ sym (values-append ss ts) }
constants-same false left right ss ts p q = nothing

opposite-by : (test : Bool) (value : ℤ) (at : At) → (if test then [] else value ∷ []) ≡ values (if test then [] else seen.Constant at value ∷ [])
opposite-by true value at = refl
opposite-by false value at = refl

pub opposite-same : (integer : Option ℤ) (at : At) → opposite integer ≡ values (sees.opposite integer at)
opposite-same None at = refl
opposite-same (Some value) at = opposite-by (int_eq value (negsuc 2147483647)) (neg_ℤ value) at

pub then-thing : (xs : List Thing) (x : Thing) (ss : List Seen) → standing_constant x ≡ [] → Same xs ss → Same (xs ++ x ∷ []) ss
then-thing xs x ss none same =
    record { is = standing-append xs (x ∷ []) ∙ ap (λ (l : List ℤ). constants_standing xs ++ l) (ap (λ (l : List ℤ). l ++ []) none) ∙ append-nil (constants_standing xs) ∙ same.is }

pub then-none : (things : List Thing) (ss ts : List Seen) → Same things ss → values ts ≡ [] → Same things (ss ++ ts)
then-none things ss ts same none = record { is = same.is ∙ sym (append-nil (values ss)) ∙ ap (λ (l : List ℤ). values ss ++ l) (sym none) ∙ sym (values-append ss ts) }
