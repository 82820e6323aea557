-- Reading what follows the type of an item where it may be a function or objects.
use Rattle.std.proofs.Common.{◌≡◌, ◌≢◌, ℕ, Bool, true, false, List, [], ◌∷◌, ◌++◌, length, Option, None, refl, ap, ◌∙◌, sym, arith, suc}
use Rattle.std.specs.Prelude.{if◌then◌else◌}
use Rattle.sat_base.specs.declared.name.Named.{Named}
use Rattle.c_tree.specs.declared.declaration.Decl.{Decl}
use Rattle.c_tree.specs.declared.declaration.Dim.{Dim}
use Rattle.c_tree.specs.declared.declaration.Init.{Init}
use Rattle.c_tree.specs.declared.statement.Block.{Block}
use Rattle.right_reading.specs.declared.specifiers.Specifiers.{Specifiers}
use Rattle.c_grammar.specs.declared.symbol.Symbol.{Symbol}
use Rattle.c_grammar.specs.declared.symbol.Symbol.TheVariants as symbol
use Rattle.c_grammar.specs.Grammar as rule
use Rattle.c_grammar.specs.Nodes as a
use Rattle.c_grammar.specs.Parts.{Part, node, word, called, followed}
use Rattle.right_reading.specs.Lists.{more_listed}
use Rattle.right_reading.specs.ReadDeclarations.{dimensions_at, start_at, object_of, declarator_at}
use Rattle.c_grammar.specs.Spelling.{Spells, whole}
use Rattle.c_grammar.specs.Spots.{Spot}
use Rattle.right_reading.specs.Stream.{ahead, Parser, both, name_at}
use Rattle.c_grammar.specs.Symbols.{same_symbol}
use Rattle.right_reading.proofs.Composed.Alternatives.{by_seen, alternative, ahead_is, follows_token}
use Rattle.item_reading.proofs.Items.Becoming.{Back, becoming}
use Rattle.right_reading.proofs.Ahead.Begins.{begins_declarator, dimension_begins, spells_starts}
use Rattle.right_reading.proofs.OneToken.Endings.{nothing_ahead, early_ahead, early_token}
use Rattle.declaration_reading.proofs.Declarators.{Dims, object_rest, object_rest_right, declarator_right}
use Rattle.right_reading.proofs.Composed.Dependent.{seen_by}
use Rattle.right_reading.proofs.OneToken.Endings.{word_after, then_word}
use Rattle.item_reading.proofs.FunctionParts.Functions.{FunctionRest, function_rest, read_function, function_right}
use Rattle.declaration_reading.proofs.Initialisers.{ends_start, stops_start, start_then}
use Rattle.right_reading.proofs.Composed.Inlined.{Becomes, becomes_same, becomes_node, unfold_whole}
use Rattle.right_reading.proofs.Lists.Listed.{ends_list, ends_one, more_right}
use Rattle.declaration_reading.proofs.ObjectsRight.{Decls, decls_parts, declared_from, declared_right}
use Rattle.right_reading.specs.Right.{first, Ends, Stops, Right, always, Reads}
use Rattle.right_reading.specs.RightExpressions.{RightExpressions}
use Rattle.right_reading.proofs.Composed.Steps.{Right-both}
use Rattle.c_grammar.proofs.SymbolNumbers.{same-is, other-is}
use Rattle.right_reading.proofs.OneToken.Tokens.{Right-if, name_right, ahead-same}
use Rattle.c_tree.specs.declared.declaration.Init.TheVariants as init
use Rattle.c_grammar.proofs.SymbolSets.{among}

-- ---- what is ahead of parts that may be nothing

dims_then : {rows cols : Option Dim} {ps : List Part} {c : ℕ} {w : List Spot} (P : Symbol → Bool) (s : List Spot) → P symbol.OpenBracket ≡ true → ((d : ℕ) (v : List Spot) → Spells ps d v → P (ahead (v ++ s)) ≡ true)
    → Spells (node (a.dimensions rows cols) ∷ ps) c w → P (ahead (w ++ s)) ≡ true
dims_then {w = w} P s bracket holds (whole {d = d} {u1 = u1} {u2 = u2} {v = v} rule.scalar early late rest e _) = ap P (nothing_ahead u1 u2 v w s e early late) ∙ holds d v rest
dims_then {w = w} P s bracket holds (whole {u1 = u1} {u2 = u2} {v = v} rule.array early late rest e _) = ap P (early_ahead u1 u2 v w s e ∙ dimension_begins (u2 ++ (v ++ s)) early) ∙ bracket
dims_then {w = w} P s bracket holds (whole {u1 = u1} {u2 = u2} {v = v} rule.table early late rest e _) = ap P (early_ahead u1 u2 v w s e ∙ dimension_begins (u2 ++ (v ++ s)) early) ∙ bracket

-- ---- what follows a name

pub data AfterName : Type 0 where
  a_function : FunctionRest → AfterName
  an_object : Dims × Init → List Decl → AfterName

-- what follows a declarator, up to the `;`
abbrev pub decls_after : Specifiers → List Decl → List Part
decls_after s ds = followed (a.declarator s.quals.is_static s.quals.is_const s.width) ds ++ word symbol.Semicolon ∷ []

abbrev pub after_parts : Specifiers → AfterName → List Part
after_parts s (a_function f) = function_rest f
after_parts s (an_object x ds) = node (a.dimensions x.0.0 x.0.1) ∷ node (a.start x.1) ∷ decls_after s ds

abbrev pub object_with : (Dims × Init) × List Decl → AfterName
object_with x = an_object x.0 x.1

abbrev pub read_object : ℕ → Specifiers → Parser ((Dims × Init) × List Decl)
read_object n s = both (both (dimensions_at n) (start_at n)) (λ k. word_after symbol.Semicolon (more_listed (declarator_at n s) [] k))

abbrev pub read_after : Parser Block → ℕ → Specifiers → Parser AfterName
read_after block n s k = if same_symbol (ahead k) symbol.OpenParen then seen_by a_function (read_function block n k) else seen_by object_with (read_object n s k)

-- what goes on with an object
abbrev goes_on : Symbol → Bool
goes_on symbol.OpenParen = false
goes_on _ = true

decls_ahead : (s : Specifiers) (ds : List Decl) (d : ℕ) (v t : List Spot) → Spells (decls_after s ds) d v → ends_start (ahead (v ++ t)) ≡ true
decls_ahead s [] d v t sp = follows_token ends_start t sp refl
decls_ahead s (y ∷ ys) d v t sp = follows_token ends_start t sp refl

object_goes_on : (s : Specifiers) (x : Dims × Init) (ds : List Decl) (d : ℕ) (v t : List Spot) → Spells (after_parts s (an_object x ds)) d v → goes_on (ahead (v ++ t)) ≡ true
object_goes_on s x ds d v t sp =
    dims_then goes_on t refl (λ d v sp. start_then goes_on t refl (λ d v sp. start_goes_on (ahead (v ++ t)) (decls_ahead s ds d v t sp)) sp) sp
  where
    start_goes_on : (s : Symbol) → ends_start s ≡ true → goes_on s ≡ true
    start_goes_on = among ends_start goes_on refl

-- ---- what follows the type

pub data Rest : Type 0 where
  objects : Decls → Rest
  function : Named → FunctionRest → Rest

abbrev pub rest_parts : Specifiers → Rest → List Part
rest_parts s (objects x) = decls_parts s x
rest_parts s (function name f) = called name ∷ function_rest f

abbrev pub named : Specifiers → Named × AfterName → Rest
named s (name, a_function f) = function name f
named s (name, an_object x ds) = objects (object_of s name x.0 x.1, ds)

abbrev pub read_rest : Parser Block → ℕ → Specifiers → Parser Rest
read_rest block n s i =
    if same_symbol (ahead i) symbol.Star then seen_by objects (declared_from n s (declarator_at n s i))
    else seen_by (named s) (both name_at (read_after block n s) i)

abbrev named_parts : Specifiers → Named × AfterName → List Part
named_parts s x = called x.0 ∷ after_parts s x.1

named_becomes : (s : Specifiers) (x : Named × AfterName) → Becomes (named_parts s x) (rest_parts s (named s x))
named_becomes s (name, a_function f) = becomes_same refl
named_becomes s (name, an_object x ds) = becomes_node (decls_after s ds) (rule.object refl)

-- an object that begins with a name
named_back : (s : Specifiers) (d : Decl) (ds : List Decl) (c : ℕ) (v t : List Spot) → Spells (decls_parts s (d, ds)) c v → ahead (v ++ t) ≢ symbol.Star → Back (named_parts s) always (named s) (objects (d, ds)) c v t
named_back s d ds c v t (whole {u1 = u1} {u2 = u2} {v = w} (rule.view _) early late rest e _) ne = absurd (ne (early_token u1 u2 w v t e early))
named_back s d ds c v t (whole {u1 = u1} {u2 = u2} {v = w} (rule.object {name = name} {rows = rows} {cols = cols} {start = x} same) early late rest e depth) ne =
    let an : Named × AfterName = (name, an_object ((rows, cols), x) ds) in
    record { a = an; same = ap (λ (y : Decl). objects (y, ds)) same; spelled = unfold_whole (rule.object same) early late rest e depth; stops = refl }

-- what a rest begins with
pub rest_begins : (s : Specifiers) (x : Rest) (d : ℕ) (v t : List Spot) → Spells (rest_parts s x) d v → begins_declarator (ahead (v ++ t)) ≡ true
rest_begins s (objects x) d v t sp = spells_starts t sp
rest_begins s (function name f) d v t sp = follows_token begins_declarator t sp refl

module _ (n : ℕ) (block : Parser Block)
    (block_right : Reads (λ (b : Block). node (a.block b) ∷ []) n always block)
    (right : RightExpressions n)
    (s : Specifiers) where
  abbrev object_parts : (Dims × Init) × List Decl → List Part
  object_parts x = after_parts s (an_object x.0 x.1)

  object_right : (k : List Spot) → Ends k → Right object_parts n always [] k (read_object n s k)
  object_right k ends =
      Right-both object_rest (decls_after s) n stops_start always (λ x ds c v t sp st. decls_ahead s ds c v t sp) []
      (both (dimensions_at n) (start_at n)) (λ k. word_after symbol.Semicolon (more_listed (declarator_at n s) [] k)) [] k
      (object_rest_right n right k ends)
      (λ j more. then_word symbol.Semicolon (λ g. cc) (λ (ds : List Decl). followed (a.declarator s.quals.is_static s.quals.is_const s.width) ds) n (λ x t. ends_list ends_start t) (λ x. refl) j
      (more_listed (declarator_at n s) [] j)
      (more_right (a.declarator s.quals.is_static s.quals.is_const s.width) n (λ d t. ends_start t) (ends_list ends_start) refl (λ d. refl) (λ d t e. ends_one ends_start t e) (declarator_at n s) (declarator_right n right s) (suc (length j)) j more (omega arith)))

  after_right : (k : List Spot) → Ends k → Right (after_parts s) n always [] k (read_after block n s k)
  after_right k ends =
      Right-if (after_parts s) n always [] k (same_symbol (ahead k) symbol.OpenParen) (seen_by a_function (read_function block n k)) (seen_by object_with (read_object n s k))
      (λ e. by_seen (alternative (after_parts s) n always [] k a_function (fun (same-is (ahead k) symbol.OpenParen e))) (read_function block n k) (function_right n block block_right right k ends))
      (λ e. by_seen (alternative (after_parts s) n always [] k object_with (obj (other-is (ahead k) symbol.OpenParen e))) (read_object n s k) (object_right k ends))
    where
      fun : ahead k ≡ symbol.OpenParen → (x : AfterName) (d : ℕ) (v t r : List Spot) → Spells (after_parts s x) d v → Stops always x t → v ++ t ≡ r → first r ≡ first k → (f : FunctionRest) × (x ≡ a_function f)
      fun is (a_function f) d v t r sp st e h = (f, refl)
      fun is (an_object x ds) d v t r sp st e h = absurd (no_paren (ahead (v ++ t)) (object_goes_on s x ds d v t sp) (ap ahead e ∙ ahead-same r k h ∙ is))
        where
          no_paren : (y : Symbol) → goes_on y ≡ true → y ≢ symbol.OpenParen
          no_paren y e f = let g : goes_on symbol.OpenParen ≡ true = ap goes_on (sym f) ∙ e in cc

      obj : ahead k ≢ symbol.OpenParen → (x : AfterName) (d : ℕ) (v t r : List Spot) → Spells (after_parts s x) d v → Stops always x t → v ++ t ≡ r → first r ≡ first k → (y : (Dims × Init) × List Decl) × (x ≡ an_object y.0 y.1)
      obj ne (a_function f) d v t r sp st e h = absurd (ne (ahead_is t r k sp e h))
      obj ne (an_object x ds) d v t r sp st e h = ((x, ds), refl)

  pub rest_right : Reads (rest_parts s) n always (read_rest block n s)
  rest_right i ends =
      Right-if (rest_parts s) n always [] i (same_symbol (ahead i) symbol.Star) (seen_by objects (declared_from n s (declarator_at n s i))) (seen_by (named s) (both name_at (read_after block n s) i))
      (λ e. by_seen (alternative (rest_parts s) n always [] i objects (star (same-is (ahead i) symbol.Star e))) (declared_from n s (declarator_at n s i)) (declared_right n right s i ends))
      (λ e. by_seen (becoming (named_parts s) (rest_parts s) n always always [] i (named s) (named_becomes s) (no_star (other-is (ahead i) symbol.Star e))) (both name_at (read_after block n s) i)
      (Right-both (λ (name : Named). called name ∷ []) (after_parts s) n always always (λ x y c v t sp st. refl) (an_object ((None, None), init.Nothing) []) name_at (read_after block n s) [] i (name_right n i ends) after_right))
    where
      star : ahead i ≡ symbol.Star → (x : Rest) (d : ℕ) (v t r : List Spot) → Spells (rest_parts s x) d v → Stops always x t → v ++ t ≡ r → first r ≡ first i → (y : Decls) × (x ≡ objects y)
      star is (objects y) d v t r sp st e h = (y, refl)
      star is (function name f) d v t r sp st e h = let g : symbol.Star ≡ symbol.Name = sym is ∙ ahead_is t r i sp e h in absurd (cc)

      no_star : ahead i ≢ symbol.Star → (x : Rest) (d : ℕ) (v t r : List Spot) → Spells (rest_parts s x) d v → Stops always x t → v ++ t ≡ r → first r ≡ first i → Back (named_parts s) always (named s) x d v t
      no_star ne (objects x) d v t r sp st e h = named_back s x.0 x.1 d v t sp (λ f. ne (sym (ap ahead e ∙ ahead-same r i h) ∙ f))
      no_star ne (function name f) d v t r sp st e h = let an : Named × AfterName = (name, a_function f) in record { a = an; same = refl; spelled = sp; stops = refl }
