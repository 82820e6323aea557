-- Reading declarations of objects.
use Rattle.std.proofs.Common.{suc, ◌≡◌, ℕ, true, List, [], ◌∷◌, ◌++◌, length, refl, ap, subst, ◌∙◌, sym, arith}
use Rattle.std.specs.Prelude.{Result, Ok, Err}
use Rattle.c_tree.specs.declared.declaration.Decl.{Decl}
use Rattle.c_tree.specs.declared.declaration.Init.TheVariants as init
use Rattle.c_tree.specs.declared.declaration.Objects.{Objects}
use Rattle.right_reading.specs.declared.specifiers.Specifiers.{Specifiers}
use Rattle.c_grammar.specs.declared.symbol.Symbol.{Symbol}
use Rattle.c_grammar.specs.declared.symbol.Symbol.TheVariants as symbol
use Rattle.c_grammar.specs.Grammar.{Rule}
use Rattle.c_grammar.specs.Grammar as rule
use Rattle.c_grammar.specs.Nodes as a
use Rattle.c_grammar.specs.Parts.{Part, node, word, separated}
use Rattle.right_reading.specs.Lists.{after, is_comma, more_listed}
use Rattle.right_reading.specs.ReadDeclarations.{word_at, specifiers_at, view_of, declarator_at, declarators_at, objects_of, objects_from_at, objects_at}
use Rattle.c_grammar.specs.Spelling.{Spells}
use Rattle.c_grammar.specs.Spots.{Spot}
use Rattle.right_reading.specs.Stream.{ahead, Fault, ◌>>=◌}
use Rattle.right_reading.proofs.Composed.Alternatives.{by_seen}
use Rattle.right_reading.proofs.Ahead.Begins.{begins_declarator, spells_starts}
use Rattle.declaration_reading.proofs.Declarators.{spec, declarator_right}
use Rattle.right_reading.proofs.Composed.Dependent.{then_right, then_read, seen_by}
use Rattle.right_reading.proofs.OneToken.Endings.{fused, word_after, then_word}
use Rattle.declaration_reading.proofs.Initialisers.{ends_start}
use Rattle.right_reading.proofs.Lists.Listed.{ends_list, ends_one, listed_right}
use Rattle.right_reading.proofs.Lists.Many.{many-more}
use Rattle.right_reading.specs.Right.{first, Ends, Stops, Right, always, Reads}
use Rattle.right_reading.specs.RightExpressions.{RightExpressions}
use Rattle.right_reading.proofs.Composed.Rules.{Chosen, no_parts, early_seen}
use Rattle.declaration_reading.proofs.Specifiers.{specifiers_node, specifiers_right}
use Rattle.right_reading.proofs.OneToken.Tokens.{no_name, nowhere}
use Rattle.right_reading.specs.Stops.{no_int}
use Rattle.c_grammar.proofs.SymbolSets.{among}

-- ---- declarators up to the `;`

-- the first and those that follow it
abbrev pub Decls : Type 0
Decls = Decl × List Decl

abbrev pub decls_parts : Specifiers → Decls → List Part
decls_parts s x = separated (a.declarator s.quals.is_static s.quals.is_const s.width) x.0 x.1 ++ word symbol.Semicolon ∷ []

abbrev pub declared_from : ℕ → Specifiers → Result (Decl × List Spot) Fault → Result (Decls × List Spot) Fault
declared_from n s y = word_after symbol.Semicolon (then_read {B = λ d. List Decl} y (λ d k. more_listed (declarator_at n s) [] k))

abbrev pub declared_as : Specifiers → Decls → Objects
declared_as s x = objects_of s.quals.at (x.0 ∷ x.1)

pub objects_from_is : (n : ℕ) (s : Specifiers) (y : Result (Decl × List Spot) Fault) → (y >>= (λ d. objects_from_at n s d.0 d.1)) ≡ seen_by (declared_as s) (declared_from n s y)
unfolding objects_from_at declarators_at
objects_from_is n s (Err f) = refl
objects_from_is n s (Ok d) = ap finished (many-more is_comma (after symbol.Comma (declarator_at n s)) (suc (length d.1)) (d.0 ∷ []) d.1) ∙ step (more_listed (declarator_at n s) [] d.1)
  where
    finished : Result (List Decl × List Spot) Fault → Result (Objects × List Spot) Fault
    finished m = seen_by (λ (x : List Decl × Unit {0}). objects_of s.quals.at x.0) (then_read {B = λ l. Unit {0}} m (λ l. word_at symbol.Semicolon))

    step : (m : Result (List Decl × List Spot) Fault) → finished (seen_by (λ (l : List Decl). (d.0 ∷ []) ++ l) m) ≡ seen_by (declared_as s) (word_after symbol.Semicolon (m >>= (λ w. Ok ((d.0, w.0), w.1))))
    step (Err f) = refl
    step (Ok w) = last (word_at symbol.Semicolon w.1)
      where
        last : (m : Result (Unit {0} × List Spot) Fault) → seen_by (λ (x : List Decl × Unit {0}). objects_of s.quals.at x.0) (m >>= (λ y. Ok ((d.0 ∷ w.0, y.0), y.1))) ≡ seen_by (declared_as s) (m >>= (λ z. Ok ((d.0, w.0), z.1)))
        last (Ok z) = refl
        last (Err f) = refl

pub declarator_no_int : (s : Symbol) → begins_declarator s ≡ true → no_int s ≡ true
declarator_no_int = among begins_declarator no_int refl

pub any_decls : (s : Specifiers) → Decls
any_decls s = (view_of s nowhere no_name init.Nothing, [])

module _ (n : ℕ)
    (right : RightExpressions n) where
  pub declared_right : (s : Specifiers) (i : List Spot) → Ends i → Right (decls_parts s) n always [] i (declared_from n s (declarator_at n s i))
  declared_right s i ends =
      then_word symbol.Semicolon (λ g. cc) (λ (x : Decls). separated (a.declarator s.quals.is_static s.quals.is_const s.width) x.0 x.1) n (λ x t. ends_list ends_start t) (λ x. refl) i
      (then_read {B = λ d. List Decl} (declarator_at n s i) (λ d k. more_listed (declarator_at n s) [] k))
      (listed_right (a.declarator s.quals.is_static s.quals.is_const s.width) n (λ d t. ends_start t) (ends_list ends_start) refl (λ d. refl) (λ d t e. ends_one ends_start t e) (declarator_at n s) (declarator_right n right s) (λ j. suc (length j)) (λ j. omega arith) i ends)

  abbrev whole_parts : Specifiers × Decls → List Part
  whole_parts x = node (specifiers_node x.0) ∷ decls_parts x.0 x.1

  abbrev whole_objects : Specifiers × Decls → Objects
  whole_objects x = declared_as x.0 x.1

  objects_are : (y : Result (Specifiers × List Spot) Fault) → (y >>= (λ s. declarator_at n s.0 s.1 >>= (λ d. objects_from_at n s.0 d.0 d.1)))
      ≡ seen_by whole_objects (then_read {B = λ s. Decls} y (λ s j. declared_from n s (declarator_at n s j)))
  objects_are (Ok s) = objects_from_is n s.0 (declarator_at n s.0 s.1) ∙ fused {B = λ s. Decls} (Ok s) (λ s j. declared_from n s (declarator_at n s j)) declared_as
  objects_are (Err f) = refl

  pub objects_right : Reads (λ (o : Objects). node (a.objects o) ∷ []) n always (objects_at n)
  unfolding objects_at
  objects_right i ends =
      subst (Right (λ (o : Objects). node (a.objects o) ∷ []) n always [] i) (sym (objects_are (specifiers_at i)))
      (by_seen (early_seen a.objects whole_parts n always always [] i whole_objects (λ x. rule.objects refl) which)
      (then_read {B = λ s. Decls} (specifiers_at i) (λ s j. declared_from n s (declarator_at n s j)))
      (then_right (λ (s : Specifiers). node (specifiers_node s) ∷ []) decls_parts n (λ x s. no_int s) (λ s. always) (λ x y c v s sp st. declarator_no_int (ahead (v ++ s)) (spells_starts s sp))
      any_decls (specifiers_at i) (λ s j. declared_from n s (declarator_at n s j)) [] i (specifiers_right n right i ends) (λ s j r. declared_right s j r.ends)))
    where
      which : (o : Objects) (early late : List Part) (c1 c2 : ℕ) (u1 u2 s r : List Spot) → Rule (a.objects o) early late → Spells early c1 u1 → Spells late c2 u2 → Stops always o s
          → (u1 ++ u2) ++ s ≡ r → first r ≡ first i → Chosen whole_parts no_parts always whole_objects o early late s
      which o early late c1 c2 u1 u2 s r (rule.objects {at = at} {is_static = is_static} {is_const = is_const} {width = w} {d = d} {ds = ds} e) sp sq st eq h =
          record { a = (spec at is_static is_const w, (d, ds)); same = e; is_early = refl; is_late = refl; stops = refl }
