-- The numbers among the words.
use Rattle.std.specs.Prelude.{◌≡◌, ℕ, ◌+◌, ◌-◌, ◌*◌, ◌^◌, ◌≤◌, List, [], ◌∷◌, length, All}

abbrev pub IsDigit : ℕ → Type 0
IsDigit letter = (48 ≤ letter) × (letter ≤ 57)

-- the number that decimal digits spell
abbrev pub number_in : List ℕ → ℕ
number_in [] = 0
number_in (digit ∷ digits) = (digit - 48) * 10 ^ length digits + number_in digits

-- The word spells this number: it has one digit or more, and at most so many, leading zeros included, and the number is
-- at most the greatest.
pub record IsNumber (most_digits greatest : ℕ) (word : List ℕ) (number : ℕ) : Type 0 where
  pub some : 1 ≤ length word
  pub few : length word ≤ most_digits
  pub digits : All IsDigit word
  pub value : number ≡ number_in word
  pub small : number ≤ greatest
