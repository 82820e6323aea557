-- How a part of a tree is gone through, from its start and from each point in it.
use Rattle.std.specs.Prelude.{List, [], ◌∷◌, ◌++◌, ◌⊎◌}
use Rattle.tree_walks.specs.Ways.{Way, nothing, Then, either}

-- A point in a part: what it is marked with, and what can follow it up to where the part is left.
pub record Point (Step Mark : Type 0) : Type 1 where
  pub mark : Mark
  pub onward : Way Step

pub record Ways (Step Mark : Type 0) : Type 1 where
  pub whole : Way Step
  pub points : List (Point Step Mark)

module _ {Step Mark : Type 0} where
  abbrev pub without_points : Way Step → Ways Step Mark
  without_points way = record { whole = way; points = [] }

  -- with a point where it begins, and one where it is gone through
  abbrev pub marked_before : Mark → Ways Step Mark → Ways Step Mark
  marked_before mark ways = record { whole = ways.whole; points = record { mark = mark; onward = ways.whole } ∷ ways.points }

  abbrev pub marked_after : Mark → Ways Step Mark → Ways Step Mark
  marked_after mark ways = record { whole = ways.whole; points = record { mark = mark; onward = nothing } ∷ ways.points }

  -- the points of two parts
  abbrev pub points_of_both : List (Point Step Mark) → List (Point Step Mark) → List (Point Step Mark)
  points_of_both [] others = others
  points_of_both (point ∷ points) others = point ∷ points_of_both points others

  -- the points of a part, as what follows the part goes on
  abbrev pub points_onward : (Way Step → Way Step) → List (Point Step Mark) → List (Point Step Mark)
  points_onward followed [] = []
  points_onward followed (point ∷ points) = record { mark = point.mark; onward = followed point.onward } ∷ points_onward followed points

  abbrev pub in_turn : Ways Step Mark → Ways Step Mark → Ways Step Mark
  in_turn first second =
      record { whole = Then first.whole second.whole; points = points_of_both (points_onward (λ way. Then way second.whole) first.points) second.points }

  abbrev pub one_of : Ways Step Mark → Ways Step Mark → Ways Step Mark
  one_of this other = record { whole = either this.whole other.whole; points = points_of_both this.points other.points }

  abbrev pub all_in_turn : List (Ways Step Mark) → Ways Step Mark
  all_in_turn [] = without_points nothing
  all_in_turn (first ∷ rest) = in_turn first (all_in_turn rest)

  -- some point of these is such
  abbrev pub SomePoint : (Point Step Mark → Type 0) → List (Point Step Mark) → Type 0
  SomePoint IsSuch [] = ⊥
  SomePoint IsSuch (point ∷ points) = IsSuch point ⊎ SomePoint IsSuch points
