-- The sites that stand in a tree are those that its code looks through, in some order, each with its operands.
use Rattle.std.proofs.Common.{◌≡◌, ℕ, zero, suc, ◌+◌, ◌==◌, List, [], ◌∷◌, ◌++◌, Bool, true, false, ◌&&◌, IsPermutation, refl, sym, ◌∙◌, subst, append_assoc, arith}
use Rattle.std.specs.Prelude.{if◌then◌else◌, flat_map, length, Option, Some, None}
use Rattle.std.proofs.lemmas.Bool.{eqb-true}
use Rattle.std.proofs.lemmas.List.Sorted.{IsPermutation-refl, IsPermutation-trans, IsPermutation-append_comm, IsPermutation-append_left, IsPermutation-append_right}
use Rattle.c_tree.specs.declared.simple.AssignMark.{AssignMark}
use Rattle.c_tree.specs.declared.simple.AssignMark.TheVariants as assign
use Rattle.operator_meaning.specs.declared.site.SiteKind.{SiteKind}
use Rattle.operator_meaning.specs.declared.site.SiteKind.TheVariants as kinds
use Rattle.c_typed.specs.declared.call.Callee.{Callee}
use Rattle.c_typed.specs.declared.call.Callee.TheVariants as callees
use Rattle.c_typed.specs.declared.typed.Typed.{Typed}
use Rattle.typed_meaning.specs.Expressions.{site_at}
use Rattle.typed_meaning.specs.Statements.{step_mark}
use Rattle.ir_arena.specs.Tree as tree
use Rattle.ir_arena.specs.Tree.{IrTree, IrTarget, IrTrees}
use Rattle.lawful_sources.specs.Rows.{takes_count}
use Rattle.lawful_sources.specs.Statements.{assign_kind, step_kind}
use Rattle.lawful_sources.specs.Things.{Use, Read, Written, Given}
use Rattle.lawful_ir.specs.Positions.{TreeThing, Position, Indexing, Starting, called, is_kind, plainly}
use Rattle.lawful_ir.specs.Walk.{begun_along, computed, each_stands, looping, marked, marked_if_any, marks_in, numbers_stand, object_at, one_operand, operand_position, operated, stands, started_in, starts_stand, target_stands, two_operands}
use Rattle.lawful_ir.specs.Walk.{count_in as count_there}
use Rattle.lawful_ir.proofs.Alike.{left, right}
use Rattle.expression_code.specs.Straight.{count_in}
use Rattle.code_pieces.specs.declared.piece.Entry.{Entry}
use Rattle.code_entries.specs.Entries.{entries_of_mark}
use Rattle.code_entries.specs.Sites.{sites_in, sites_of, sites_of_place}
use Rattle.code_sites.specs.Operands.{has_operands, have_operands, place_has_operands, takes}
use Rattle.code_sites.proofs.Indices.{index-fair, is_fair, kind-is, operand-fair}
use Rattle.code_sites.proofs.Marks.{Sited, alone, as-act, as-block, as-call, as-statement, as-value, as-view, astray, behind, both, constants, joined, nothing, one-site, ordered, placed, silent, tested, where-counted, where-placed}

turned-round : (xs ys zs : List Entry) → IsPermutation (xs ++ (ys ++ zs)) (zs ++ (ys ++ xs))
turned-round xs ys zs =
    subst (IsPermutation (xs ++ (ys ++ zs))) (append_assoc zs ys xs)
    (IsPermutation-trans _ _ _ (IsPermutation-append_comm xs (ys ++ zs)) (IsPermutation-append_left xs _ _ (IsPermutation-append_comm ys zs)))

none-in : (trees : IrTrees) → (count_there trees == 0) ≡ true → sites_in trees ≡ []
none-in tree.end none = refl
none-in (tree.more first rest) none = absurd (omega (arith, eqb-true (count_there (tree.more first rest)) 0 none))

none-there : (trees : IrTrees) → (count_there trees == 0) ≡ true → have_operands trees ≡ true
none-there tree.end none = refl
none-there (tree.more first rest) none = absurd (omega (arith, eqb-true (count_there (tree.more first rest)) 0 none))

module _ (tables : Typed) where
  abbrev site : ℕ → SiteKind → Entry
  site number kind = record { site = number; kind = kind }

  -- in each of these trees, at one position
  abbrev AllSited : Position → IrTrees → Type 0
  AllSited position tree.end = Unit {0}
  AllSited position (tree.more first rest) = Sited tables (stands tables first position) (sites_of first) (has_operands first) × AllSited position rest

  -- ---- what is computed and checked

  -- the site stands before its operands in the source, and behind them in the code
  site-first : (number : ℕ) (kind : SiteKind) {things : List TreeThing} {entries : List Entry} {test : Bool} → Sited tables things entries test
      → Sited tables (marked tables number kind ∷ things) (entries ++ site number kind ∷ []) test
  site-first number kind {things} {entries} {test} sited = ordered (joined (one-site number kind) sited) (IsPermutation-append_comm (site number kind ∷ []) entries)

  in-numbers : (operands : IrTrees) → AllSited plainly operands → Sited tables (flat_map (λ (part : List TreeThing). part) (numbers_stand tables operands)) (sites_in operands) (have_operands operands)
  in-numbers tree.end all = nothing
  in-numbers (tree.more first rest) all = joined all.0 (in-numbers rest all.1)

  long : (operands : IrTrees) → length (numbers_stand tables operands) ≡ count_in operands
  long tree.end = refl
  long (tree.more first rest) = omega (arith, long rest)

  -- a site with its operands, by the things that stand there
  abbrev IsSite : ℕ → SiteKind → IrTrees → List TreeThing → Type 0
  IsSite number kind operands things = Sited tables things (sites_in operands ++ site number kind ∷ []) (takes kind (count_in operands) && have_operands operands)

  of-index : (due kind : SiteKind) (count number weight : ℕ) (operands : IrTrees) (arguments : List TreeThing) → takes due count ≡ true → AllSited plainly operands
      → IsSite number kind operands (operated tables (Indexing due count) number kind weight (numbers_stand tables operands) arguments)
  of-index due kind count number weight operands arguments fair all = where-placed _ (λ is.
      let many = eqb-true _ count (right (weight == 0) _ (right (is_kind due kind) _ is)) in
      subst (λ (k : SiteKind). IsSite number k operands (marked tables number due ∷ flat_map (λ (part : List TreeThing). part) (numbers_stand tables operands))) (kind-is due kind (left (is_kind due kind) _ is))
      (tested (site-first number due (in-numbers operands all)) (both (subst (λ (n : ℕ). takes due n ≡ true) (sym many ∙ long operands) fair))))

  of-one : (position : Position) (number : ℕ) (kind : SiteKind) (weight : ℕ) (operands : IrTrees) → AllSited plainly operands
      → Sited tables (one_operand tables position number kind weight (numbers_stand tables operands)) (sites_in operands ++ site number kind ∷ []) ((count_in operands == 1) && have_operands operands)
  of-one position number kind weight (tree.more part tree.end) all = placed (weight == 0) (as-value position None (site-first number kind (alone all.0)))
  of-one position number kind weight operands all = astray

  of-two : (position : Position) (number : ℕ) (kind : SiteKind) (weight : ℕ) (operands : IrTrees) → AllSited plainly operands
      → Sited tables (two_operands tables position number kind weight (numbers_stand tables operands)) (sites_in operands ++ site number kind ∷ []) ((count_in operands == 2) && have_operands operands)
  of-two position number kind weight (tree.more first (tree.more second tree.end)) all = placed (weight == 0) (as-value position None
      (ordered (joined all.0 (site-first number kind (alone all.1.0))) (rw (append_assoc (sites_of first) (sites_of second ++ []) (site number kind ∷ [])) (IsPermutation-refl _))))
  of-two position number kind weight operands all = astray

  of-call : (position : Position) (callee : Callee) (number : ℕ) (kind : SiteKind) (operands : IrTrees) {arguments : List TreeThing} → ((n : ℕ) → takes kind n ≡ (n == takes_count tables callee)) → Sited tables arguments (sites_in operands) (have_operands operands)
      → IsSite number kind operands (called position callee (length (numbers_stand tables operands)) (marked tables number kind ∷ arguments))
  of-call position callee number kind operands {arguments} same sited =
      where-counted position callee _ (λ is. tested (site-first number kind sited) (both (same (count_in operands) ∙ rw (← long operands) is)))

  of-kind : (position : Position) (number : ℕ) (kind : SiteKind) (weight : ℕ) (operands : IrTrees) (arguments : List TreeThing) → AllSited plainly operands → Sited tables arguments (sites_in operands) (have_operands operands)
      → IsSite number kind operands (computed tables position number kind weight (numbers_stand tables operands) arguments)
  of-kind position number (kinds.Call op) weight operands arguments all sited = placed _ (of-call position (callees.Operator op) number (kinds.Call op) operands (λ n. refl) sited)
  of-kind position number kinds.Sample weight operands arguments all sited = placed _ (of-call position callees.SampleIn number kinds.Sample operands (λ n. refl) sited)
  of-kind position number kinds.Opposite weight operands arguments all sited = of-one position number kinds.Opposite weight operands all
  of-kind position number kinds.Sum weight operands arguments all sited = of-two position number kinds.Sum weight operands all
  of-kind position number kinds.Difference weight operands arguments all sited = of-two position number kinds.Difference weight operands all
  of-kind position number kinds.Product weight operands arguments all sited = of-two position number kinds.Product weight operands all
  of-kind position number kind weight operands arguments all sited = astray

  of-site : (position : Position) (number : ℕ) (kind : SiteKind) (weight : ℕ) (operands : IrTrees) (arguments : List TreeThing) → is_fair position ≡ true → AllSited plainly operands → Sited tables arguments (sites_in operands) (have_operands operands)
      → IsSite number kind operands (operated tables position number kind weight (numbers_stand tables operands) arguments)
  of-site (Indexing due count) number kind weight operands arguments fair all sited = of-index due kind count number weight operands arguments fair all
  of-site position number kind weight operands arguments fair all sited = of-kind position number kind weight operands arguments all sited

  -- ---- parts of statements

  of-mark : (mark : AssignMark) (number : Option ℕ) → Sited tables (marked_if_any tables number (assign_kind mark)) (entries_of_mark mark (site_at number)) true
  of-mark assign.Plus (Some number) = one-site number kinds.Sum
  of-mark assign.Minus (Some number) = one-site number kinds.Difference
  of-mark assign.Times (Some number) = one-site number kinds.Product
  of-mark assign.Plus None = astray
  of-mark assign.Minus None = astray
  of-mark assign.Times None = astray
  of-mark mark None = nothing
  of-mark mark (Some number) = astray

  of-step : (up : Bool) (number : ℕ) → Sited tables (marked tables number (step_kind up) ∷ []) (entries_of_mark (step_mark up) number) true
  of-step true number = one-site number kinds.Sum
  of-step false number = one-site number kinds.Difference

  either : (b : Bool) {ones others : List TreeThing} {entries : List Entry} {test : Bool} → Sited tables ones entries test → Sited tables others entries test → Sited tables (if b then ones else others) entries test
  either true one other = one
  either false one other = other

  of-starts : (number count : ℕ) (starts : IrTrees) → AllSited Starting starts → Sited tables (begun_along number count (starts_stand tables starts)) (sites_in starts) (have_operands starts)
  of-starts number zero tree.end all = nothing
  of-starts number zero (tree.more start rest) all = astray
  of-starts number (suc count) tree.end all = silent _ refl (of-starts (number + 1) count tree.end all)
  of-starts number (suc count) (tree.more start rest) all =
      either (started_in start == number) (joined all.0 (of-starts (number + 1) count rest all.1)) (silent _ refl (of-starts (number + 1) count (tree.more start rest) all))

  -- a loop tests behind its body, and that is where the sites of its condition stand
  of-loop : (tests_first : Bool) (first cond last : IrTrees) {firsts conds lasts things : List TreeThing} {entries : List Entry} {test : Bool}
      → Sited tables firsts (sites_in first) (have_operands first) → Sited tables conds (sites_in cond) (have_operands cond) → Sited tables lasts (sites_in last) (have_operands last) → Sited tables things entries test
      → Sited tables (looping tables tests_first (count_there first) (count_there cond) (count_there last) firsts conds lasts things) (sites_in first ++ (entries ++ (sites_in last ++ sites_in cond))) (have_operands first && (have_operands cond && (have_operands last && test)))
  of-loop true first cond last {firsts} {conds} {lasts} {things} {entries} {test} one two three body =
      placed _ (ordered (joined one (joined two (joined three body))) (IsPermutation-append_right (sites_in first) _ _ (turned-round (sites_in cond) (sites_in last) entries)))
  of-loop false first cond last {firsts} {conds} {lasts} {things} {entries} {test} one two three body = where-placed _ (λ is.
      let heads = right (count_there cond == 1) (count_there first == 0 && count_there last == 0) is in
      let none-first = left (count_there first == 0) _ heads in
      let none-last = right (count_there first == 0) _ heads in
      rw (none-in first none-first, none-in last none-last, none-there first none-first, none-there last none-last)
      (tested (joined body two) (λ has. both (right test _ has) (left test _ has))))

  -- ---- trees

  mutual
    pub of-tree : (t : IrTree) (position : Position) → is_fair position ≡ true → Sited tables (stands tables t position) (sites_of t) (has_operands t)
    of-tree (tree.Constant value) position fair = as-value position None nothing
    of-tree (tree.Read target) position fair = as-value position None (of-target target Read)
    of-tree (tree.Address target) position fair = as-view position _ (λ taken. of-target target (Given taken))
    of-tree (tree.Operate number kind operands weight) position fair =
        of-site position number kind weight operands _ fair (of-all operands plainly refl) (of-each operands (operand_position tables kind) 0 (operand-fair tables kind))
    of-tree (tree.Convert cast width part) position fair = as-value position _ (of-tree part plainly refl)
    of-tree (tree.Not part) position fair = as-value position None (of-tree part plainly refl)
    of-tree (tree.Invert part) position fair = as-value position None (of-tree part plainly refl)
    of-tree (tree.Binary mark first second) position fair =
        placed _ (as-value position None (joined (of-tree first plainly refl) (joined (constants _) (of-tree second plainly refl))))
    of-tree (tree.Choose cond this other) position fair =
        as-value position None (joined (of-tree cond plainly refl) (joined (of-tree this plainly refl) (of-tree other plainly refl)))
    of-tree (tree.Call function args) position fair = as-call position _ _ (of-each args _ 0 (λ place. refl))
    of-tree (tree.ReadFlag pos) position fair = as-value position None nothing
    of-tree tree.Left position fair = as-call position _ _ nothing
    of-tree (tree.Write target mark width number value) position fair = as-act position (placed _ (
        ordered (joined (of-target target Written) (joined (of-mark mark number) (of-tree value _ refl)))
        (IsPermutation-append_right (sites_of_place target) _ _ (IsPermutation-append_comm (entries_of_mark mark (site_at number)) (sites_of value)))))
    of-tree (tree.Step target up width number) position fair =
        as-act position (placed _ (tested (joined (of-target target Written) (of-step up number)) (λ has. left (place_has_operands target) true has)))
    of-tree (tree.WriteFlag value) position fair = as-act position (of-tree value _ refl)
    of-tree (tree.Out value) position fair = as-call position _ _ (of-tree value _ refl)
    of-tree (tree.AddCount weight) position fair = placed _ (as-call position _ _ nothing)
    of-tree (tree.Start object value) Starting fair = behind _ refl (of-tree value _ refl)
    of-tree (tree.Start object value) position fair = astray
    of-tree tree.Empty position fair = as-statement position nothing
    of-tree (tree.Block first count starts parts) position fair =
        as-block position (joined (of-starts first count starts (of-all starts Starting refl)) (of-each parts _ 0 (λ place. refl)))
    of-tree (tree.If cond this other) position fair =
        placed _ (as-statement position (joined (of-tree cond plainly refl) (joined (of-tree this _ refl) (of-each other _ 0 (λ place. refl)))))
    of-tree (tree.Loop cut tests_first first cond last body) position fair =
        as-statement position (of-loop tests_first first cond last (of-each first _ 0 (λ place. refl)) (of-each cond _ 0 (λ place. refl)) (of-each last _ 0 (λ place. refl)) (of-tree body _ refl))
    of-tree (tree.Leave again) position fair = as-statement position (silent _ refl nothing)
    of-tree (tree.Return value) position fair = placed _ (as-statement position (silent _ refl (of-each value _ 0 (λ place. refl))))

    of-target : (target : IrTarget) (aim : Use) → Sited tables (target_stands tables target aim) (sites_of_place target) (place_has_operands target)
    of-target (tree.Variable object) aim = silent _ refl nothing
    of-target (tree.Element object index) aim = placed _ (silent _ refl (of-each index _ 0 (index-fair (object_at tables object) aim (marks_in index))))
    of-target (tree.ThroughView view index) aim = placed _ (silent _ refl (of-each index _ 0 (index-fair (object_at tables view) aim (marks_in index))))

    of-each : (trees : IrTrees) (position : ℕ → Position) (place : ℕ) → ((k : ℕ) → is_fair (position k) ≡ true) → Sited tables (each_stands tables trees position place) (sites_in trees) (have_operands trees)
    of-each tree.end position place fair = nothing
    of-each (tree.more first rest) position place fair = joined (of-tree first (position place) (fair place)) (of-each rest position (place + 1) fair)

    of-all : (trees : IrTrees) (position : Position) → is_fair position ≡ true → AllSited position trees
    of-all tree.end position fair = tt
    of-all (tree.more first rest) position fair = (of-tree first position fair, of-all rest position fair)
