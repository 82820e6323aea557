-- The sites among the things that stand in a tree, where no node is misplaced and calls have as many arguments as they take.
use Rattle.std.proofs.Common.{◌≡◌, ℕ, List, [], ◌∷◌, ◌++◌, Bool, true, false, ◌&&◌, IsPermutation, refl, append-nil}
use Rattle.std.specs.Prelude.{◌==◌, ℤ, flat_map, map, Option, Some, None}
use Rattle.std.proofs.lemmas.List.Concat.{flat_map-append}
use Rattle.std.proofs.lemmas.List.Sorted.{IsPermutation-refl, IsPermutation-trans, IsPermutation-append}
use Rattle.sat_base.specs.declared.width.Width.{Width}
use Rattle.operator_meaning.specs.declared.site.SiteKind.{SiteKind}
use Rattle.c_typed.specs.declared.call.Callee.{Callee}
use Rattle.c_typed.specs.declared.typed.Typed.{Typed}
use Rattle.lawful_sources.specs.Things.{Taken, Thing, Call, Mark, Constant}
use Rattle.lawful_sources.specs.Rows.{arguments_are_counted, takes_count}
use Rattle.lawful_sources.proofs.Passing.{Each, next}
use Rattle.lawful_ir.specs.Positions.{TreeThing, Of, Misplaced, Position, Valued, Acting, Stating, Body, thing_of, things_of, is_placed, placed_if, turned, valued, needs, viewed, acted, called, stated, blocked}
use Rattle.lawful_ir.specs.Walk.{marked}
use Rattle.lawful_ir.proofs.Alike.{never, head, earlier, later, left, tail}
use Rattle.code_pieces.specs.declared.piece.Entry.{Entry}

abbrev pub entry_of : Thing → List Entry
entry_of (Mark at (Some site) (Some kind)) = record { site = site; kind = kind } ∷ []
entry_of thing = []

abbrev pub entries_among : List TreeThing → List Entry
entries_among things = flat_map entry_of (things_of things)

-- a node that is not misplaced, and a call with as many arguments as it takes
abbrev pub fits : Typed → TreeThing → Bool
fits tables (Of thing) = arguments_are_counted tables thing
fits tables Misplaced = false

-- where all things fit, these entries are the sites among them, in some order, and a test of the tree is passed
pub record Sited (tables : Typed) (things : List TreeThing) (entries : List Entry) (test : Bool) : Type 0 where
  pub are : Each (fits tables) things → IsPermutation (entries_among things) entries
  pub passed : Each (fits tables) things → test ≡ true

pub both : {p q : Bool} → p ≡ true → q ≡ true → (p && q) ≡ true
both {p} {q} one other = rw (one, other) refl

pub all-fit : (tables : Typed) (things : List TreeThing) → Each is_placed things → Each (arguments_are_counted tables) (things_of things) → Each (fits tables) things
all-fit tables [] placed counted = record { all = refl }
all-fit tables (Of x ∷ things) placed counted =
    next (fits tables) (Of x) things (head (arguments_are_counted tables) x _ counted)
    (all-fit tables things (tail is_placed (Of x) things placed) (tail (arguments_are_counted tables) x _ counted))
all-fit tables (Misplaced ∷ things) placed counted = never (head is_placed Misplaced things placed)

module _ {tables : Typed} where
  -- ---- parts

  pub nothing : Sited tables [] [] true
  nothing = record { are = λ all. IsPermutation-refl []; passed = λ all. refl }

  pub astray : {things : List TreeThing} {entries : List Entry} {test : Bool} → Sited tables (Misplaced ∷ things) entries test
  astray {things} {entries} {test} = record { are = λ all. never (head (fits tables) Misplaced things all); passed = λ all. never (head (fits tables) Misplaced things all) }

  pub joined : {xs ys : List TreeThing} {es fs : List Entry} {p q : Bool} → Sited tables xs es p → Sited tables ys fs q → Sited tables (xs ++ ys) (es ++ fs) (p && q)
  joined {xs} {ys} {es} {fs} {p} {q} one other = record {
    are = λ all.
        rw (flat_map-append thing_of xs ys, flat_map-append entry_of (things_of xs) (things_of ys))
        (IsPermutation-append _ _ _ _ (one.are (earlier (fits tables) xs ys all)) (other.are (later (fits tables) xs ys all)));
    passed = λ all. both (one.passed (earlier (fits tables) xs ys all)) (other.passed (later (fits tables) xs ys all));
  }

  pub one-site : (site : ℕ) (kind : SiteKind) → Sited tables (marked tables site kind ∷ []) (record { site = site; kind = kind } ∷ []) true
  one-site site kind = record { are = λ all. IsPermutation-refl _; passed = λ all. refl }

  module _ {things : List TreeThing} {entries : List Entry} {test : Bool} where
    -- in another order, and by another test
    pub ordered : {others : List Entry} → Sited tables things entries test → IsPermutation entries others → Sited tables things others test
    ordered {others} sited same = record { are = λ all. IsPermutation-trans _ _ _ (sited.are all) same; passed = sited.passed }

    pub tested : {other : Bool} → Sited tables things entries test → (test ≡ true → other ≡ true) → Sited tables things entries other
    tested {other} sited follows = record { are = sited.are; passed = λ all. follows (sited.passed all) }

  module _ {things : List TreeThing} {entries : List Entry} {test : Bool} where
    -- in a row of one
    pub alone : Sited tables things entries test → Sited tables things (entries ++ []) (test && true)
    alone sited = ordered (tested sited (λ is. both is refl)) (rw (append-nil entries) (IsPermutation-refl entries))

    -- a thing that is no site, before the others
    pub silent : (x : Thing) → entry_of x ≡ [] → Sited tables things entries test → Sited tables (Of x ∷ things) entries test
    silent x none sited = record { are = λ all. rw none (sited.are (tail (fits tables) (Of x) things all)); passed = λ all. sited.passed (tail (fits tables) (Of x) things all) }

    -- ---- positions

    pub where-placed : (b : Bool) → (b ≡ true → Sited tables things entries test) → Sited tables (placed_if b things) entries test
    where-placed true sited = sited refl
    where-placed false sited = astray

    pub placed : (b : Bool) → Sited tables things entries test → Sited tables (placed_if b things) entries test
    placed b sited = where-placed b (λ is. sited)

    converted : (is due : Option Width) → Sited tables things entries test → Sited tables (turned is due ++ things) entries test
    converted None None sited = sited
    converted None (Some due) sited = silent _ refl sited
    converted (Some width) due sited = silent _ refl sited

    pub as-act : (position : Position) → Sited tables things entries test → Sited tables (acted position things) entries test
    as-act Acting sited = sited
    as-act (Stating spot) sited = silent _ refl sited
    as-act position sited = astray

    pub as-statement : (position : Position) → Sited tables things entries test → Sited tables (stated position things) entries test
    as-statement (Stating spot) sited = silent _ refl sited
    as-statement position sited = astray

    pub as-block : (position : Position) → Sited tables things entries test → Sited tables (blocked position things) entries test
    as-block (Stating spot) sited = silent _ refl sited
    as-block (Body spot) sited = sited
    as-block position sited = astray

  module _ {things : List TreeThing} {entries : List Entry} {test : Bool} where
    pub as-value : (position : Position) (is : Option Width) → Sited tables things entries test → Sited tables (valued position is things) entries test
    as-value (Valued None due) is sited = converted is due sited
    as-value (Valued (Some taken) due) is sited = silent _ refl (converted is due sited)
    as-value position is sited = astray

    -- a call that fits has as many arguments as it takes
    counted : (callee : Callee) (count : ℕ) (is_needed : Bool) → ((count == takes_count tables callee) ≡ true → Sited tables things entries test) → Sited tables (Of (Call callee count is_needed) ∷ things) entries test
    counted callee count is_needed sited = record {
      are = λ all. (sited (head (fits tables) _ things all)).are (tail (fits tables) _ things all);
      passed = λ all. (sited (head (fits tables) _ things all)).passed (tail (fits tables) _ things all);
    }

  module _ {things : List TreeThing} {entries : List Entry} {test : Bool} where
    pub where-counted : (position : Position) (callee : Callee) (count : ℕ) → ((count == takes_count tables callee) ≡ true → Sited tables things entries test) → Sited tables (called position callee count things) entries test
    where-counted (Valued passed due) callee count sited = as-value (Valued passed due) None (counted callee count true sited)
    where-counted position callee count sited = as-act position (counted callee count (needs position) sited)

    pub as-call : (position : Position) (callee : Callee) (count : ℕ) → Sited tables things entries test → Sited tables (called position callee count things) entries test
    as-call position callee count sited = where-counted position callee count (λ is. sited)

  -- what stands where a view is given depends on what is taken
  pub as-view : (position : Position) (given : Option Taken → List TreeThing) {entries : List Entry} {test : Bool} → ((taken : Option Taken) → Sited tables (given taken) entries test) → Sited tables (viewed position given) entries test
  as-view (Valued (Some taken) due) given {entries} {test} sited = silent _ refl (sited taken)
  as-view position given {entries} {test} sited = astray

  -- a thing that is no site, behind the others
  pub behind : (x : Thing) → entry_of x ≡ [] → {things : List TreeThing} {entries : List Entry} {test : Bool} → Sited tables things entries test → Sited tables (things ++ Of x ∷ []) entries test
  behind x none {things} {entries} {test} sited =
      ordered (tested (joined sited (silent x none nothing)) (λ is. left test true is)) (rw (append-nil entries) (IsPermutation-refl entries))

  pub constants : (values : List ℤ) → Sited tables (map (λ (value : ℤ). Of (Constant value)) values) [] true
  constants [] = nothing
  constants (value ∷ values) = silent (Constant value) refl (constants values)
