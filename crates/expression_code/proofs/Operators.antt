-- Operators and plain arithmetic over the topmost values of the stack.
use Rattle.std.proofs.Common.{◌≡◌, ℕ, ◌+◌, ◌*◌, ◌%◌, ◌^◌, ◌<◌, ◌≤◌, ℤ, pos, Bool, true, false, if◌then◌else◌, List, [], ◌∷◌, ◌++◌, length, length-append, refl, sym, ap, ◌∙◌, subst, arith}
use Rattle.std.specs.Prelude.{Option, Some, None, take, FitsSigned}
use Rattle.std.specs.Int.{w32, cast_unsigned}
use Rattle.std.proofs.lemmas.Int.{ints}
use Rattle.operator_meaning.specs.declared.object.Object.{Object}
use Rattle.operator_meaning.specs.declared.operator.Op.{Op}
use Rattle.operator_meaning.specs.declared.site.SiteKind.{SiteKind}
use Rattle.operator_meaning.specs.declared.site.SiteKind.TheVariants as kind
use Rattle.operator_meaning.specs.declared.site.Form.TheVariants.{Plain, Flag}
use Rattle.operator_meaning.specs.Clipping.{raises_of}
use Rattle.operator_meaning.specs.Table.{row_of, arity_of, FitWidths, FitsWidth, AreOperands}
use Rattle.operator_meaning.specs.Value.{value_of}
use Rattle.operator_meaning.proofs.Values.{values_fit}
use Rattle.operator_lowering.specs.Laws.{IsFormOf}
use Rattle.operator_lowering.specs.Sites.{site_value, site_clips, site_raises, samples_after, of_32_bits, AreSiteOperands}
use Rattle.operator_lowering.specs.Template.{makes_calls}
use Rattle.source_runs.specs.Marks.{within}
use Rattle.source_runs.specs.Runs.{Gives, Stops, at_site, changing, ◌>>=◌, ◌>>◌}
use Rattle.source_runs.specs.State.{Kept as KeptState, SourceState, raised, counted}
use Rattle.source_runs.proofs.Operators.{fits_32}
use Rattle.tree_meaning.specs.Parts.{operated_with}
use Rattle.rv_encode.specs.State.{MachineState, Running, Over, Stopped, register}
use Rattle.code_lines.specs.Words.{StandHere, Code}
use Rattle.code_lines.specs.Pieces.{count_in}
use Rattle.code_runs.specs.Doing.{Passes, Bond, Comes}
use Rattle.code_runs.proofs.Steps.{passes_then}
use Rattle.code_stacks.specs.Places.{Layout, IsLaidOut}
use Rattle.code_stacks.specs.Agreement.{Agrees, IsWith}
use Rattle.code_stacks.specs.Operands.{fetches, finish_code}
use Rattle.code_stacks.proofs.Keeping.{Keeps, keeps_same, agrees_kept, held_kept, lowered}
use Rattle.code_stacks.proofs.Operands.{second_stands}
use Rattle.expression_code.specs.Code.{template_code, site_code}
use Rattle.expression_code.proofs.Computing.{concluded}
use Rattle.expression_code.proofs.Sites.{IsAsked, IsTold, site_done}

-- ---- what the source does

operated_some : (weight site : ℕ) (op : Op) (args : List ℤ) (x : ℤ) (s : SourceState) → value_of op args ≡ Some x
    → operated_with weight site op args s ≡ Gives x (record { kept = raised (raises_of op args) (counted weight s.kept); sites = s.sites ++ site ∷ [] })
unfolding operated_with at_site changing ◌>>=◌ ◌>>◌
operated_some weight site op args x s is = rw is refl

operated_none : (weight site : ℕ) (op : Op) (args : List ℤ) (s : SourceState) → value_of op args ≡ None → operated_with weight site op args s ≡ Stops site (record { kept = s.kept; sites = s.sites ++ site ∷ [] })
unfolding operated_with at_site changing ◌>>=◌ ◌>>◌
operated_none weight site op args s is = rw is refl

site_some : (site : ℕ) (o : Option ℤ) (x : ℤ) (s : SourceState) → o ≡ Some x → at_site site o s ≡ Gives x (record { kept = s.kept; sites = s.sites ++ site ∷ [] })
unfolding at_site
site_some site o x s is = rw is refl

site_none : (site : ℕ) (o : Option ℤ) (s : SourceState) → o ≡ None → at_site site o s ≡ Stops site (record { kept = s.kept; sites = s.sites ++ site ∷ [] })
unfolding at_site
site_none site o s is = rw is refl

-- ---- numbers

within_is : (z : ℤ) → of_32_bits z ≡ within z
within_is z = grind (arith, ints)

within_fits : (z x : ℤ) → within z ≡ Some x → FitsSigned w32 x
within_fits z x is = grind (arith, ints)

later_count : (before lag weight : ℕ) → ((before + lag) % 2 ^ 64 + weight) % 2 ^ 64 ≡ (before + (lag + weight)) % 2 ^ 64
later_count before lag weight = omega arith

flag_fits : (b : Bool) (x : ℤ) → FitsSigned w32 x → FitsSigned w32 (if b then pos 1 else x)
flag_fits true x fits = grind (arith, ints)
flag_fits false x fits = fits

-- ---- what holds after an operator

agrees_operated : (objects : List Object) (l : Layout) (lag weight depth : ℕ) (raises : Bool) (kept : KeptState) (m u : MachineState) → Keeps l depth m u → register u 27 ≡ (if raises then pos 1 else register m 27)
    → Agrees objects l lag kept m → Agrees objects l (lag + weight) (raised raises (counted weight kept)) u
agrees_operated objects l lag weight depth raises kept m u keeps flag agrees = record {
  based = keeps.based ∙ agrees.based;
  flag = flag ∙ ap (λ x. if raises then pos 1 else x) agrees.flag;
  flag_fits = flag_fits raises kept.overflow agrees.flag_fits;
  count = ap (λ n. (n + weight) % 2 ^ 64) agrees.count ∙ later_count (count_in (register m)) lag weight
      ∙ ap (λ x. (cast_unsigned w32 (register m 25) * 2 ^ 32 + cast_unsigned w32 x + (lag + weight)) % 2 ^ 64) (sym keeps.low)
      ∙ ap (λ x. (cast_unsigned w32 x * 2 ^ 32 + cast_unsigned w32 (register u 24) + (lag + weight)) % 2 ^ 64) (sym keeps.high);
  halves = (subst (FitsSigned w32) (sym keeps.low) agrees.halves.0, subst (FitsSigned w32) (sym keeps.high) agrees.halves.1);
  input = keeps.input ∙ agrees.input;
  samples = agrees.samples;
  output = keeps.output ∙ agrees.output;
  size = keeps.size ∙ agrees.size;
  variables = λ n is. let held = held_kept objects l kept m.memory u.memory n (keeps.variables n is) (agrees.variables n is) in record { numbers = held.numbers; fits = held.fits };
}

module _ (code : Code) (turns : ℕ) (objects : List Object) (l : Layout) (laid : IsLaidOut code l) where
  -- the value of a site on the stack, in place of its operands
  abbrev pub WithValue : (end lag : ℕ) → List ℤ → (ℤ → Type 0) → ℤ → Bond
  WithValue end lag values P x s m = IsWith objects l end lag (values ++ x ∷ []) s m × P x

  op_asked : (op : Op) (args input : List ℤ) (o : Option ℤ) → length args ≡ arity_of op → AreOperands op args → value_of op args ≡ o → IsAsked code objects l laid (kind.Call op) Flag args input (raises_of op args) o
  op_asked op args input o count are is = record {
    operands = λ a b c same. subst (FitWidths (row_of op).takes) (sym (ap (λ n. take n (a ∷ b ∷ c ∷ [])) (sym count) ∙ same)) are;
    unclipped = λ a b c same plain. let e = plain in cc;
    value = λ a b c same. ap (value_of op) (ap (λ n. take n (a ∷ b ∷ c ∷ [])) (sym count) ∙ same) ∙ is;
    raised = λ a b c same. ap (raises_of op) (ap (λ n. take n (a ∷ b ∷ c ∷ [])) (sym count) ∙ same);
    calls = refl;
    samples = λ input. refl;
    form_is = tt;
  }

  op_by : (k lag : ℕ) (values args : List ℤ) (op : Op) (site weight : ℕ) (s : SourceState) (m : MachineState) (o : Option ℤ) → value_of op args ≡ o → length args ≡ arity_of op → length args ≤ 3 → AreOperands op args
      → length values + length args ≤ l.depth → length values < l.depth → IsTold code (kind.Call op) Flag site (length values) (length args) → StandHere code k (site_code l (length values) (length args) site (kind.Call op))
      → IsWith objects l k lag (values ++ args) s m
      → Comes code turns (Running m) s.sites (λ x. 0) (WithValue (k + length (site_code l (length values) (length args) site (kind.Call op))) (lag + weight) values (FitsWidth (row_of op).gives)) (operated_with weight site op args s)
  op_by k lag values args op site weight s m (Some x) is count few are all_room room small stands with_args =
      let depth = length values in
      let fetching = fetches l depth (length args) in
      let words = template_code (kind.Call op) Flag site depth (length args) in
      let finishing = finish_code l depth in
      let site_is = site_done code objects l laid k lag values args (kind.Call op) Flag site (raises_of op args) (Some x) s m few all_room small stands with_args (op_asked op args s.kept.left (Some x) count are is) in
      let after : SourceState = record { kept = raised (raises_of op args) (counted weight s.kept); sites = s.sites ++ site ∷ [] } in
      let fits = values_fit op args x are is in
      let agrees = agrees_operated objects l lag weight depth (raises_of op args) s.kept m site_is.0 site_is.3 site_is.5 with_args.agrees in
      let finish_stands = second_stands code (k + length fetching) words finishing (second_stands code k fetching (words ++ finishing) stands) in
      let done = concluded code objects l laid (k + length fetching + length words) (lag + weight) values x after m site_is.0 room finish_stands site_is.2 agrees site_is.3
      (lowered l values args m m (keeps_same l depth m) with_args.stack) site_is.4 (fits_32 (row_of op).gives x fits) in
      let whole : k + length fetching + length words + length finishing ≡ k + length (fetching ++ (words ++ finishing)) = omega (arith, length-append fetching (words ++ finishing), length-append words finishing) in
      subst (Comes code turns (Running m) s.sites (λ x. 0) (WithValue (k + length (fetching ++ (words ++ finishing))) (lag + weight) values (FitsWidth (row_of op).gives))) (sym (operated_some weight site op args x s is))
      (done.0, passes_then code s.sites (s.sites ++ site ∷ []) (Running m) (Running site_is.0) (Running done.0) site_is.1 done.1, (subst (λ n. IsWith objects l n (lag + weight) (values ++ x ∷ []) after done.0) whole done.2, fits))
  op_by k lag values args op site weight s m None is count few are all_room room small stands with_args =
      let site_is = site_done code objects l laid k lag values args (kind.Call op) Flag site (raises_of op args) None s m few all_room small stands with_args (op_asked op args s.kept.left None count are is) in
      subst (Comes code turns (Running m) s.sites (λ x. 0) (WithValue (k + length (site_code l (length values) (length args) site (kind.Call op))) (lag + weight) values (FitsWidth (row_of op).gives))) (sym (operated_none weight site op args s is))
      (subst (λ output. Passes code 0 s.sites (s.sites ++ site ∷ []) (Running m) (Over (Stopped site) output)) with_args.agrees.output site_is)

  pub op_done : (k lag : ℕ) (values args : List ℤ) (op : Op) (site weight : ℕ) (s : SourceState) (m : MachineState) → length args ≡ arity_of op → length args ≤ 3 → AreOperands op args
      → length values + length args ≤ l.depth → length values < l.depth → IsTold code (kind.Call op) Flag site (length values) (length args) → StandHere code k (site_code l (length values) (length args) site (kind.Call op))
      → IsWith objects l k lag (values ++ args) s m
      → Comes code turns (Running m) s.sites (λ x. 0) (WithValue (k + length (site_code l (length values) (length args) site (kind.Call op))) (lag + weight) values (FitsWidth (row_of op).gives)) (operated_with weight site op args s)
  op_done k lag values args op site weight s m count few are all_room room small stands with_args =
      op_by k lag values args op site weight s m (value_of op args) refl count few are all_room room small stands with_args

  -- ---- plain arithmetic

  pub record IsPlain (kind : SiteKind) (args : List ℤ) (z : ℤ) : Type 0 where
    pub operands : (a b c : ℤ) → take (length args) (a ∷ b ∷ c ∷ []) ≡ args → AreSiteOperands kind a b c
    pub unclipped : (a b c : ℤ) → site_clips kind a b c ≡ false
    pub value : (a b c : ℤ) (input : List ℤ) → take (length args) (a ∷ b ∷ c ∷ []) ≡ args → site_value kind a b c input ≡ of_32_bits z
    pub raised : (a b c : ℤ) → site_raises kind a b c ≡ false
    pub calls : makes_calls kind ≡ false
    pub samples : (input : List ℤ) → samples_after kind input ≡ input
    pub form_is : IsFormOf kind Plain

  plain_asked : (kind : SiteKind) (args input : List ℤ) (z : ℤ) (o : Option ℤ) → IsPlain kind args z → within z ≡ o → IsAsked code objects l laid kind Plain args input false o
  plain_asked kind args input z o plain is = record {
    operands = plain.operands;
    unclipped = λ a b c same form. plain.unclipped a b c;
    value = λ a b c same. plain.value a b c input same ∙ within_is z ∙ is;
    raised = λ a b c same. plain.raised a b c;
    calls = plain.calls;
    samples = plain.samples;
    form_is = plain.form_is;
  }

  plain_by : (k lag : ℕ) (values args : List ℤ) (kind : SiteKind) (site : ℕ) (z : ℤ) (s : SourceState) (m : MachineState) (o : Option ℤ) → within z ≡ o → IsPlain kind args z → length args ≤ 3
      → length values + length args ≤ l.depth → length values < l.depth → IsTold code kind Plain site (length values) (length args)
      → StandHere code k (fetches l (length values) (length args) ++ (template_code kind Plain site (length values) (length args) ++ finish_code l (length values)))
      → IsWith objects l k lag (values ++ args) s m
      → Comes code turns (Running m) s.sites (λ x. 0)
      (WithValue (k + length (fetches l (length values) (length args) ++ (template_code kind Plain site (length values) (length args) ++ finish_code l (length values)))) lag values (FitsSigned w32))
      (at_site site (within z) s)
  plain_by k lag values args kind site z s m (Some x) is plain few all_room room small stands with_args =
      let depth = length values in
      let fetching = fetches l depth (length args) in
      let words = template_code kind Plain site depth (length args) in
      let finishing = finish_code l depth in
      let site_is = site_done code objects l laid k lag values args kind Plain site false (Some x) s m few all_room small stands with_args (plain_asked kind args s.kept.left z (Some x) plain is) in
      let after : SourceState = record { kept = s.kept; sites = s.sites ++ site ∷ [] } in
      let fits = within_fits z x is in
      let agrees = agrees_kept objects l lag depth s.kept m site_is.0 site_is.3 site_is.5 with_args.agrees in
      let finish_stands = second_stands code (k + length fetching) words finishing (second_stands code k fetching (words ++ finishing) stands) in
      let done = concluded code objects l laid (k + length fetching + length words) lag values x after m site_is.0 room finish_stands site_is.2 agrees site_is.3
      (lowered l values args m m (keeps_same l depth m) with_args.stack) site_is.4 fits in
      let whole : k + length fetching + length words + length finishing ≡ k + length (fetching ++ (words ++ finishing)) = omega (arith, length-append fetching (words ++ finishing), length-append words finishing) in
      subst (Comes code turns (Running m) s.sites (λ x. 0) (WithValue (k + length (fetching ++ (words ++ finishing))) lag values (FitsSigned w32))) (sym (site_some site (within z) x s is))
      (done.0, passes_then code s.sites (s.sites ++ site ∷ []) (Running m) (Running site_is.0) (Running done.0) site_is.1 done.1, (subst (λ n. IsWith objects l n lag (values ++ x ∷ []) after done.0) whole done.2, fits))
  plain_by k lag values args kind site z s m None is plain few all_room room small stands with_args =
      let site_is = site_done code objects l laid k lag values args kind Plain site false None s m few all_room small stands with_args (plain_asked kind args s.kept.left z None plain is) in
      subst (Comes code turns (Running m) s.sites (λ x. 0) (WithValue _ lag values (FitsSigned w32))) (sym (site_none site (within z) s is))
      (subst (λ output. Passes code 0 s.sites (s.sites ++ site ∷ []) (Running m) (Over (Stopped site) output)) with_args.agrees.output site_is)

  pub plain_done : (k lag : ℕ) (values args : List ℤ) (kind : SiteKind) (site : ℕ) (z : ℤ) (s : SourceState) (m : MachineState) → IsPlain kind args z → length args ≤ 3
      → length values + length args ≤ l.depth → length values < l.depth → IsTold code kind Plain site (length values) (length args)
      → StandHere code k (fetches l (length values) (length args) ++ (template_code kind Plain site (length values) (length args) ++ finish_code l (length values)))
      → IsWith objects l k lag (values ++ args) s m
      → Comes code turns (Running m) s.sites (λ x. 0)
      (WithValue (k + length (fetches l (length values) (length args) ++ (template_code kind Plain site (length values) (length args) ++ finish_code l (length values)))) lag values (FitsSigned w32))
      (at_site site (within z) s)
  plain_done k lag values args kind site z s m plain few all_room room small stands with_args =
      plain_by k lag values args kind site z s m (within z) refl plain few all_room room small stands with_args
