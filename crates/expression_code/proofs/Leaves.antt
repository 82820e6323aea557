-- Numbers, variables and Overflow on the stack, and what is computed of one operand.
use Rattle.std.proofs.Common.{◌≡◌, ◌≢◌, ℕ, ◌+◌, ◌≤◌, ℤ, pos, Bool, true, false, ◌&&◌, List, [], ◌∷◌, ◌++◌, length, length-append, append-nil, refl, sym, ap, ◌∙◌, subst, arith}
use Rattle.std.specs.Prelude.{Option, Some, None, FitsSigned, slice_get}
use Rattle.std.specs.Int.{w16, w32, int_bit_not}
use Rattle.std.specs.Ordering.{int_eq}
use Rattle.std.proofs.lemmas.Int.{ints}
use Rattle.std.specs.Option.{unwrap_or}
use Rattle.sat_base.specs.declared.position.Pos.{Pos}
use Rattle.sat_base.specs.declared.width.Width.{Width}
use Rattle.sat_base.specs.declared.width.Width.TheVariants.{W16, W32}
use Rattle.operator_meaning.specs.declared.object.Object.{Object}
use Rattle.operator_meaning.specs.Table.{FitsWidth}
use Rattle.source_runs.specs.Marks.{truth, unary_meaning}
use Rattle.source_runs.specs.Runs.{Gives, gives, ◌>>=◌, reading}
use Rattle.source_runs.specs.Shapes.{shape_of}
use Rattle.source_runs.proofs.Operators.{fits_32}
use Rattle.source_runs.specs.State.{SourceState, converted, number_at, location}
use Rattle.typed_meaning.specs.Expressions.{Setting, Called}
use Rattle.ir_arena.specs.Tree.{IrTree, Constant, Read, Operate, Convert, Not, Invert, Binary, Choose, ReadFlag, Variable}
use Rattle.tree_meaning.specs.Trees.{value_meaning}
use Rattle.code_lines.specs.declared.word.Word.{Word}
use Rattle.code_lines.specs.Words.{StandHere, Code}
use Rattle.code_lines.specs.Own.{Addi}
use Rattle.rv_encode.specs.State.{MachineState, Running, register}
use Rattle.code_lines.specs.Pieces.{number_code}
use Rattle.code_runs.specs.Doing.{Bond, Comes, Does}
use Rattle.code_runs.proofs.Parts.{in_turn}
use Rattle.code_stacks.specs.Places.{Layout, IsLaidOut, stack_register}
use Rattle.code_memory.specs.Memory.{load_code, word_in}
use Rattle.code_memory.proofs.Accesses.{loads_are_done}
use Rattle.code_stacks.specs.Agreement.{IsWith, With}
use Rattle.code_stacks.specs.Operands.{finish_code}
use Rattle.code_stacks.proofs.Keeping.{agrees_kept, keeps_registers, variable_at}
use Rattle.code_stacks.proofs.Operands.{first_stands, second_stands}
use Rattle.code_stacks.proofs.Registers.{stack_work, work_apart, work_below}
use Rattle.expression_code.specs.Code.{has_sixteen, is_sixteen, fits_sixteen, around, not_line, invert_line, convert_code, expression_code, weight_of}
use Rattle.expression_code.specs.Laws as laws
use Rattle.expression_code.specs.Laws.{AreScalars}
use Rattle.expression_code.specs.Straight.{is_number, is_straight, height_of}
use Rattle.expression_code.proofs.Computing.{Leaves, computed, concluded, IsChanged, five, result, changed_spare, concluded_from}
use Rattle.expression_code.proofs.Placing.{top_fits, convert_done}
use Rattle.expression_code.proofs.Values.{makes_number, reads_flag, negates, inverts}
use Rattle.code_runs.proofs.Steps.{passes_none}

pub both_true : (a b : Bool) → (a && b) ≡ true → (a ≡ true) × (b ≡ true)
both_true true b e = (refl, e)
both_true false b e = absurd (let f = e in cc)

number_fits : (n : ℤ) → is_number n ≡ true → FitsSigned w32 n
number_fits n is = grind (arith, ints)

sixteen_fits : (n : ℤ) → has_sixteen n ≡ true → FitsSigned w16 n
sixteen_fits n is = grind (arith, ints)

pub one_longer : (values : List ℤ) (x : ℤ) → length (values ++ x ∷ []) ≡ length values + 1
one_longer values x = omega (arith, length-append values (x ∷ []))

-- an expression takes a place at least
pub some_height : (e : IrTree) → 1 ≤ height_of e
some_height (Operate site kind operands weight) = omega arith
some_height (Convert cast width part) = some_height part
some_height (Not part) = some_height part
some_height (Invert part) = some_height part
some_height (Binary mark left right) = omega (arith, some_height left)
some_height (Choose cond this other) = omega (arith, some_height cond)
some_height e = omega arith

differ_flag : ◌≢◌ {A = ℕ} 27 5
differ_flag e = cc

module _ (code : Code) (turns : ℕ) (l : Layout) (laid : IsLaidOut code l) (here : Setting) (called : Called) (scalars : AreScalars here.objects l) where
  abbrev At : (k lag : ℕ) → List ℤ → Bond
  At k lag values = With here.objects l k lag values

  abbrev code_of : IrTree → ℕ → List Word
  code_of e depth = expression_code here.objects l e depth

  abbrev pub Valued : (place lag : ℕ) → List ℤ → IrTree → ℤ → Bond
  Valued place lag values e = laws.Valued here.objects l place lag values e

  abbrev pub DoesExpression : IrTree → Type 0
  DoesExpression e = (k lag : ℕ) (values : List ℤ) → is_straight l e ≡ true → length values + height_of e ≤ l.depth → StandHere code k (code_of e (length values))
      → Does code turns (At k lag values) (value_meaning here called e) (Valued (k + length (code_of e (length values))) (lag + weight_of e) values e)

  one_room : (part : IrTree) (values : List ℤ) → length values + height_of part ≤ l.depth → length values + 1 ≤ l.depth
  one_room part values room = omega (arith, some_height part)

  -- ---- what is left is given

  pub given : (place lag : ℕ) (values : List ℤ) (x : ℤ) (P : ℤ → Type 0) (s : SourceState) (m : MachineState) → Leaves code here.objects l place lag (values ++ x ∷ []) s m → P x
      → Comes code turns (Running m) s.sites (λ y. 0) (λ y t n. IsWith here.objects l place lag (values ++ y ∷ []) t n × P y) (Gives x s)
  given place lag values x P s m leaves holds = (leaves.0, passes_none code 0 s.sites (Running m) (Running leaves.0) leaves.1, (leaves.2, holds))

  pub no_values : (k lag : ℕ) (values : List ℤ) (s : SourceState) (m : MachineState) → At k lag values s m → IsWith here.objects l k lag (values ++ []) s m
  no_values k lag values s m at = subst (λ v. IsWith here.objects l k lag v s m) (sym (append-nil values)) at

  -- one operand, and what computes of it
  module _ (part : IrTree) (line : ℕ → List Word) (f : ℤ → ℤ) (does : DoesExpression part) where
    unary_done : (k lag : ℕ) (values : List ℤ) (P : ℤ → Type 0) → is_straight l part ≡ true → length values + height_of part ≤ l.depth → length values + 1 ≤ l.depth
        → ((k lag : ℕ) (x : ℤ) (s : SourceState) (m : MachineState) → StandHere code k (line (length values)) → Valued k lag values part x s m → Leaves code here.objects l (k + length (line (length values))) lag (values ++ f x ∷ []) s m × P (f x))
        → StandHere code k (code_of part (length values) ++ line (length values))
        → Does code turns (At k lag values) (value_meaning here called part >>= (λ x. gives (f x)))
        (λ y s m. IsWith here.objects l (k + length (code_of part (length values) ++ line (length values))) (lag + weight_of part) (values ++ y ∷ []) s m × P y)
    unary_done k lag values P straight room room_one computes stands =
        let xs = code_of part (length values) in
        let ys = line (length values) in
        let whole : k + length xs + length ys ≡ k + length (xs ++ ys) = omega (arith, length-append xs ys) in
        in_turn code turns (At k lag values) (value_meaning here called part) (Valued (k + length xs) (lag + weight_of part) values part) (λ x. gives (f x)) _
        (does k lag values straight room (first_stands code k xs ys stands))
        (λ x s m valued.
        let done = computes (k + length xs) (lag + weight_of part) x s m (second_stands code k xs ys stands) valued in
        given (k + length (xs ++ ys)) (lag + weight_of part) values (f x) P s m (subst (λ n. Leaves code here.objects l n (lag + weight_of part) (values ++ f x ∷ []) s m) whole done.0) done.1)

  -- ---- leaves of the tree

  pub constant_does : (value : ℤ) → DoesExpression (Constant value)
  constant_does value k lag values straight room stands s m at =
      let fits = number_fits value straight in
      let none : lag ≡ lag + 0 = omega arith in
      let is = computed code here.objects l laid k lag values [] value (number_code (stack_register (length values)) value) s m (omega arith) (omega arith) (omega arith) stands (no_values k lag values s m at)
      (makes_number code here.objects l laid (length values) s.kept.overflow value fits) in
      given (k + length (code_of (Constant value) (length values))) (lag + 0) values value (λ y. has_sixteen value ≡ true → FitsSigned w16 y) s m
      (subst (λ n. Leaves code here.objects l (k + length (code_of (Constant value) (length values))) n (values ++ value ∷ []) s m) none is) (sixteen_fits value)

  pub flag_does : (word : Pos) → DoesExpression (ReadFlag word)
  unfolding reading
  flag_does word k lag values straight room stands s m at =
      let none : lag ≡ lag + 0 = omega arith in
      let is = computed code here.objects l laid k lag values [] s.kept.overflow (Addi (stack_register (length values)) 27 (pos 0) ∷ []) s m (omega arith) (omega arith) (omega arith) stands (no_values k lag values s m at)
      (reads_flag code here.objects l laid (length values) s.kept.overflow at.agrees.flag_fits) in
      given (k + length (code_of (ReadFlag word) (length values))) (lag + 0) values s.kept.overflow (λ y. false ≡ true → FitsSigned w16 y) s m
      (subst (λ n. Leaves code here.objects l (k + length (code_of (ReadFlag word) (length values))) n (values ++ s.kept.overflow ∷ []) s m) none is) (λ e. cc)

  -- a variable is a scalar, so its one element is read
  read_is : (n : ℕ) (s : SourceState) → (shape_of here.objects n).view ≡ false
      → value_meaning here called (Read (Variable n)) s ≡ Gives (number_at (location (shape_of here.objects n).object 0) s.kept) s
  unfolding reading ◌>>=◌
  read_is n s scalar = rw scalar refl

  object_is : (n : ℕ) (found : Option Object) → slice_get here.objects n ≡ found → (shape_of here.objects n).object ≡ n
  object_is n None is = rw is refl
  object_is n (Some object) is = rw is refl

  pub sixteen_by : (width : Width) (x : ℤ) → FitsWidth width x → is_sixteen width ≡ true → FitsSigned w16 x
  sixteen_by W16 x fits is = fits
  sixteen_by W32 x fits is = let e = is in cc

  pub variable_does : (n : ℕ) → DoesExpression (Read (Variable n))
  variable_does n k lag values straight room stands s m at =
      let depth = length values in
      let loading = load_code (stack_register depth) (l.slot n) in
      let finishing = finish_code l depth in
      let held = at.agrees.variables n straight in
      let x = word_in m.memory (l.slot n) in
      let done = loads_are_done code k (stack_register depth) (l.slot n) m (first_stands code k loading finishing stands) at.before at.agrees.based (variable_at l m.memory n laid at.agrees.size straight)
      (work_apart (stack_register depth) 0 (stack_work depth) refl) in
      let u = done.0 in
      let loaded = done.2 in
      let same : (i : ℕ) → (IsChanged code here.objects l laid depth i → ⊥) → register u i ≡ register m i = λ i other.
      loaded.others i (λ e. other (subst (IsChanged code here.objects l laid depth) (sym e) result)) (λ e. other (subst (IsChanged code here.objects l laid depth) (sym e) five)) in
      let keeps = keeps_registers l depth m u (IsChanged code here.objects l laid depth) (changed_spare code here.objects l laid depth) same loaded.memory loaded.input loaded.output in
      let flag : register u 27 ≡ register m 27 = loaded.others 27 (λ e. work_below (stack_register depth) 27 (stack_work depth) refl (sym e)) differ_flag in
      let fits = fits_32 (shape_of here.objects n).width x held.fits in
      let is = concluded code here.objects l laid (k + length loading) lag values x s m u (omega arith) (second_stands code k loading finishing stands) loaded.before
      (agrees_kept here.objects l lag depth s.kept m u keeps flag at.agrees) keeps at.stack loaded.gives fits in
      let whole : k + length loading + length finishing ≡ k + length (loading ++ finishing) = omega (arith, length-append loading finishing) in
      let none : lag ≡ lag + 0 = omega arith in
      let value : number_at (location (shape_of here.objects n).object 0) s.kept ≡ x =
      ap (λ o. number_at (location o 0) s.kept) (object_is n (slice_get here.objects n) refl) ∙ ap (λ list. unwrap_or (slice_get list 0) (pos 0)) held.numbers in
      let moved = subst (λ e. Leaves code here.objects l e (lag + 0) (values ++ x ∷ []) s m) whole (subst (λ g. Leaves code here.objects l (k + length loading + length finishing) g (values ++ x ∷ []) s m) none
      (concluded_from code here.objects l laid (k + length loading + length finishing) lag (values ++ x ∷ []) s m u done.1 is)) in
      subst (Comes code turns (Running m) s.sites (λ y. 0) (Valued (k + length (loading ++ finishing)) (lag + 0) values (Read (Variable n)))) (sym (read_is n s (scalars n straight) ∙ ap (λ y. Gives y s) value))
      (given (k + length (loading ++ finishing)) (lag + 0) values x (λ y. is_sixteen (shape_of here.objects n).width ≡ true → FitsSigned w16 y) s m moved (sixteen_by (shape_of here.objects n).width x held.fits))

  -- ---- one operand

  pub convert_does : (cast : Bool) (width : Width) (part : IrTree) → DoesExpression part → DoesExpression (Convert cast width part)
  convert_does cast width part does k lag values straight room stands =
      unary_done part (convert_code here.objects l width (fits_sixteen here.objects part)) (converted width) does k lag values (λ y. is_sixteen width ≡ true → FitsSigned w16 y) straight room (one_room part values room)
      (λ at late x s m standing valued.
      let done = convert_done code here.objects l laid at late values x width (fits_sixteen here.objects part) s m valued.1 (one_room part values room) standing valued.0 in
      (done.0, sixteen_by width (converted width x) done.1)) stands

  pub not_does : (part : IrTree) → DoesExpression part → DoesExpression (Not part)
  unfolding unary_meaning
  not_does part does k lag values straight room stands =
      unary_done part (λ depth. around l depth 1 (not_line depth)) (λ x. truth (int_eq x (pos 0))) does k lag values (λ y. false ≡ true → FitsSigned w16 y) straight room (one_room part values room)
      (λ at late x s m standing valued. (
        computed code here.objects l laid at late values (x ∷ []) (truth (int_eq x (pos 0))) (not_line (length values)) s m (omega arith) (one_room part values room) (omega (arith, one_room part values room)) standing valued.0
            (negates code here.objects l laid (length values) s.kept.overflow x (top_fits code here.objects l laid at late values x s m valued.0)),
        λ e. cc,
      )) stands

  pub invert_does : (part : IrTree) → DoesExpression part → DoesExpression (Invert part)
  unfolding unary_meaning
  invert_does part does k lag values straight room stands =
      unary_done part (λ depth. around l depth 1 (invert_line depth)) (λ x. int_bit_not w32 x) does k lag values (λ y. false ≡ true → FitsSigned w16 y) straight room (one_room part values room)
      (λ at late x s m standing valued. (
        computed code here.objects l laid at late values (x ∷ []) (int_bit_not w32 x) (invert_line (length values)) s m (omega arith) (one_room part values room) (omega (arith, one_room part values room)) standing valued.0
            (inverts code here.objects l laid (length values) s.kept.overflow x (top_fits code here.objects l laid at late values x s m valued.0)),
        λ e. cc,
      )) stands
