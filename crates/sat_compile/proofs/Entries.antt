-- The image of a source has an entry for each of its sites.
use Rattle.std.proofs.Common.{◌≡◌, ℕ, ◌+◌, ◌≤◌, pos, inl, inr, List, [], ◌∷◌, ◌++◌, map, take, drop, length, refl, sym, ap, ◌∙◌, subst, arith, lit≤, All, flat_map, append-nil, append_assoc}
use Rattle.std.proofs.lemmas.List.{length-append, length-map, map-append}
use Rattle.std.proofs.lemmas.List.Elements.{All-head, All-tail, All-nil, All-cons, All-append}
use Rattle.std.proofs.Math.Seq.{drop-append_seam, take-append_seam}
use Rattle.sat_base.specs.declared.position.Pos.{Pos}
use Rattle.first_form.specs.declared.first.First.{First}
use Rattle.first_form.specs.declared.first.FirstExpr.{FirstExpr, Int, Add', Sub', more_of-FirstExpr as boxed}
use Rattle.image_format.specs.declared.image.SiteEntry.{SiteEntry}
use Rattle.rv_encode.specs.declared.instruction.Instr.{Instr}
use Rattle.rv_encode.specs.declared.instruction.Instr.TheVariants.{Lui, Addi, Lw, Sw}
use Rattle.rv_encode.specs.Words.{encoded}
use Rattle.sat_compile.specs.declared.emit.Operator.{Operator}
use Rattle.sat_compile.specs.declared.emit.Operator.TheVariants as operator
use Rattle.sat_compile.specs.Emission.{operator_code, slot, kept_code, environment_code, operand_code, call_code, expression_code, out_code, code_of, entry_of, call_entries, expression_entries, entries_from, image_of}
use Rattle.operator_meaning.specs.declared.object.Site.{Site}
use Rattle.operator_meaning.specs.declared.operator.Op.{Op}
use Rattle.operator_meaning.specs.declared.operator.Op.TheVariants as op
use Rattle.sat_compile.specs.FirstSource.{site, in_full, expression_sites, sites_of}
use Rattle.sat_compile.specs.Promise.{IsEntryOf, AreEntriesOf, AreDisjoint, AreApart, HoldsSites}

-- ---- instructions in the code

-- these instructions stand in the code from this word on
record Stands (code : List ℕ) (start : ℕ) (instrs : List Instr) : Type 0 where
  front : List ℕ
  back : List ℕ
  whole : code ≡ front ++ (map encoded instrs ++ back)
  place : length front ≡ start

stands_left : (code : List ℕ) (start : ℕ) (a b : List Instr) → Stands code start (a ++ b) → Stands code start a
stands_left code start a b s = record {
  front = s.front;
  back = map encoded b ++ s.back;
  whole = s.whole ∙ ap (λ l. s.front ++ l) (ap (λ l. l ++ s.back) (map-append encoded a b) ∙ append_assoc (map encoded a) (map encoded b) s.back);
  place = s.place;
}

stands_right : (code : List ℕ) (start : ℕ) (a b : List Instr) → Stands code start (a ++ b) → Stands code (start + length a) b
stands_right code start a b s =
    let place = s.place in
    record {
      front = s.front ++ map encoded a;
      back = s.back;
      whole =
          s.whole
          ∙ ap (λ l. s.front ++ l) (ap (λ l. l ++ s.back) (map-append encoded a b) ∙ append_assoc (map encoded a) (map encoded b) s.back)
          ∙ sym (append_assoc s.front (map encoded a) (map encoded b ++ s.back));
      place = omega (arith, length-append s.front (map encoded a), length-map a encoded);
    }

-- they are what the code has there
stands_words : (code : List ℕ) (start : ℕ) (instrs : List Instr) (n : ℕ) → Stands code start instrs → length instrs ≡ n
    → take n (drop start code) ≡ map encoded instrs
stands_words code start instrs n s is =
    let many : n ≡ length (map encoded instrs) = sym (length-map instrs encoded ∙ is) in
    ap (λ k. take n (drop k code)) (sym s.place)
    ∙ ap (λ l. take n (drop (length s.front) l)) s.whole
    ∙ ap (take n) (drop-append_seam s.front (map encoded instrs ++ s.back))
    ∙ ap (λ k. take k (map encoded instrs ++ s.back)) many
    ∙ take-append_seam (map encoded instrs) s.back

-- ---- entries in a range of the code

-- what all entries have in common
pub record IsOwn (entry : SiteEntry) : Type 0 where
  pub words : entry.words ≡ 10
  pub kind : entry.kind ≤ 1
  pub bound : entry.bound ≡ 0
  pub form : entry.form ≡ 2
  pub guard : entry.guard ≡ 0
  pub operands : entry.operands ≡ 2
  pub result : entry.result ≡ 8
  pub reg_a : entry.reg_a ≡ 8
  pub reg_b : entry.reg_b ≡ 9
  pub reg_c : entry.reg_c ≡ 0

own : (op : Operator) (start : ℕ) (at : Pos) → IsOwn (entry_of op start at)
own operator.Add start at = record { words = refl; kind = lit≤ tt; bound = refl; form = refl; guard = refl; operands = refl; result = refl; reg_a = refl; reg_b = refl; reg_c = refl }
own operator.Sub start at = record { words = refl; kind = lit≤ tt; bound = refl; form = refl; guard = refl; operands = refl; result = refl; reg_a = refl; reg_b = refl; reg_c = refl }

-- the words of an entry lie between these two places
pub record LiesIn (low high : ℕ) (entry : SiteEntry) : Type 0 where
  pub from : low ≤ entry.first
  pub to : entry.first + entry.words ≤ high
  pub is : IsOwn entry

lies_wider : (low high lower higher : ℕ) (entry : SiteEntry) → lower ≤ low → high ≤ higher → LiesIn low high entry → LiesIn lower higher entry
lies_wider low high lower higher entry below above lies =
    let from = lies.from in let to = lies.to in
    record { from = omega arith; to = omega arith; is = lies.is }

all_by : {X : Type 0} (P Q : X → Type 0) → ((x : X) → P x → Q x) → (xs : List X) → All P xs → All Q xs
all_by P Q f xs h k d less = f _ (h k d less)

-- the entries are those of the sites, lie between these two places, and do not overlap
record Hold (code : List ℕ) (low high : ℕ) (sites : List Site) (entries : List SiteEntry) : Type 0 where
  told : AreEntriesOf code sites (map in_full sites) entries
  inside : All (LiesIn low high) entries
  apart : AreApart entries

hold_none : (code : List ℕ) (low high : ℕ) → Hold code low high [] []
hold_none code low high = record { told = tt; inside = All-nil _; apart = tt }

hold_wider : (code : List ℕ) (low high lower higher : ℕ) (sites : List Site) (entries : List SiteEntry) → lower ≤ low → high ≤ higher
    → Hold code low high sites entries → Hold code lower higher sites entries
hold_wider code low high lower higher sites entries below above h = record {
  told = h.told;
  inside = all_by (LiesIn low high) (LiesIn lower higher) (λ entry. lies_wider low high lower higher entry below above) entries h.inside;
  apart = h.apart;
}

-- an entry whose words come after those of all that follow
hold_after : (code : List ℕ) (low middle high : ℕ) (site : Site) (sites : List Site) (entry : SiteEntry) (entries : List SiteEntry) → low ≤ middle → middle ≤ high
    → IsEntryOf code site (in_full site) entry → LiesIn middle high entry → Hold code low middle sites entries → Hold code low high (site ∷ sites) (entry ∷ entries)
hold_after code low middle high site sites entry entries below above is lies h =
    let wider = hold_wider code low middle low high sites entries (omega arith) above h in
    let before : (other : SiteEntry) → LiesIn low middle other → AreDisjoint entry other = λ other lies'. inr (let to = lies'.to in let from = lies.from in omega arith) in
    record {
      told = (is, h.told);
      inside = All-cons (LiesIn low high) entry entries (lies_wider middle high low high entry below (omega arith) lies) wider.inside;
      apart = (all_by (LiesIn low middle) (AreDisjoint entry) before entries h.inside, h.apart);
    }

told_append : (code : List ℕ) (sites sites' : List Site) (entries entries' : List SiteEntry) → AreEntriesOf code sites (map in_full sites) entries → AreEntriesOf code sites' (map in_full sites') entries'
    → AreEntriesOf code (sites ++ sites') (map in_full (sites ++ sites')) (entries ++ entries')
told_append code [] sites' [] entries' told told' = told'
told_append code (site ∷ sites) sites' (entry ∷ entries) entries' told told' = (told.0, told_append code sites sites' entries entries' told.1 told')
told_append code [] sites' (entry ∷ entries) entries' told told' = absurd told
told_append code (site ∷ sites) sites' [] entries' told told' = absurd told

apart_append : (low middle high : ℕ) (entries entries' : List SiteEntry) → All (LiesIn low middle) entries → All (LiesIn middle high) entries'
    → AreApart entries → AreApart entries' → AreApart (entries ++ entries')
apart_append low middle high [] entries' inside inside' apart apart' = apart'
apart_append low middle high (entry ∷ entries) entries' inside inside' apart apart' =
    let lies = All-head (LiesIn low middle) entry entries inside in
    let after : (other : SiteEntry) → LiesIn middle high other → AreDisjoint entry other = λ other lies'. inl (let to = lies.to in let from = lies'.from in omega arith) in (
      All-append (AreDisjoint entry) entries entries' apart.0 (all_by (LiesIn middle high) (AreDisjoint entry) after entries' inside'),
      apart_append low middle high entries entries' (All-tail (LiesIn low middle) entry entries inside) inside' apart.1 apart',
    )

hold_append : (code : List ℕ) (low middle high : ℕ) (sites sites' : List Site) (entries entries' : List SiteEntry) → low ≤ middle → middle ≤ high
    → Hold code low middle sites entries → Hold code middle high sites' entries' → Hold code low high (sites ++ sites') (entries ++ entries')
hold_append code low middle high sites sites' entries entries' below above h h' = record {
  told = told_append code sites sites' entries entries' h.told h'.told;
  inside =
      All-append (LiesIn low high) entries entries'
      (hold_wider code low middle low high sites entries (omega arith) above h).inside
      (hold_wider code middle high low high sites' entries' below (omega arith) h').inside;
  apart = apart_append low middle high entries entries' h.inside h'.inside h.apart h'.apart;
}

-- ---- expressions

pub operator_length : (op : Operator) → length (operator_code op) ≡ 10
operator_length operator.Add = refl
operator_length operator.Sub = refl

-- the operator of the operators' table
abbrev pub called : Operator → Op
called operator.Add = op.Add
called operator.Sub = op.Sub

operator_told : (code : List ℕ) (op : Operator) (tok : ℕ) (at : Pos) (start : ℕ) → Stands code start (operator_code op) → IsEntryOf code (site (called op) tok at) (in_full (site (called op) tok at)) (entry_of op start at)
operator_told code operator.Add tok at start s = record {
  line = refl;
  col = refl;
  kind = refl;
  bound = refl;
  form = refl;
  guard = refl;
  operands = refl;
  words = stands_words code start (operator_code operator.Add) 10 s (operator_length operator.Add);
}
operator_told code operator.Sub tok at start s = record {
  line = refl;
  col = refl;
  kind = refl;
  bound = refl;
  form = refl;
  guard = refl;
  operands = refl;
  words = stands_words code start (operator_code operator.Sub) 10 s (operator_length operator.Sub);
}

-- a call whose operands hold
call_holds : (code : List ℕ) (op : Operator) (tok : ℕ) (at : Pos) (start : ℕ) (left right : List Instr) (lefts rights : List SiteEntry) (sites sites' : List Site)
    → Stands code start (call_code op left right)
    → Hold code start (start + length left) sites lefts
    → Hold code (start + length left) (start + length left + length right) sites' rights
    → Hold code start (start + length (call_code op left right)) (site (called op) tok at ∷ (sites ++ sites')) (call_entries op at start left right lefts rights)
call_holds code op tok at start left right lefts rights sites sites' s h h' =
    let tail = operator_code op ++ Addi 24 24 (pos 1) ∷ [] in
    let place = start + length left + length right in
    let rest = stands_right code (start + length left) right tail (stands_right code start left (right ++ tail) s) in
    let ten : length (operator_code op) ≡ 10 = operator_length op in
    let end : place + 10 ≤ start + length (call_code op left right) =
    omega (arith, length-append left (right ++ tail), length-append right tail, length-append (operator_code op) (Addi 24 24 (pos 1) ∷ [])) in
    hold_after code start place (start + length (call_code op left right)) (site (called op) tok at) (sites ++ sites') (entry_of op place at) (lefts ++ rights)
    (omega arith) (omega arith)
    (operator_told code op tok at place (stands_left code place (operator_code op) (Addi 24 24 (pos 1) ∷ []) rest))
    (record { from = omega arith; to = end; is = own op place at })
    (hold_append code start (start + length left) place sites sites' lefts rights (omega arith) (omega arith) h h')

-- a right operand that is a call stands one word after its code begins
kept_holds : (code : List ℕ) (depth start : ℕ) (inner : List Instr) (sites : List Site) (entries : List SiteEntry) → Stands code start (kept_code depth inner)
    → (Stands code (start + 1) inner → Hold code (start + 1) (start + 1 + length inner) sites entries)
    → Hold code start (start + length (kept_code depth inner)) sites entries
kept_holds code depth start inner sites entries s h =
    let head = Sw 26 8 (slot depth) ∷ [] in
    let tail = Addi 9 8 (pos 0) ∷ Lw 8 26 (slot depth) ∷ [] in
    let rest : Stands code (start + 1) (inner ++ tail) = stands_right code start head (inner ++ tail) s in
    hold_wider code (start + 1) (start + 1 + length inner) start (start + length (kept_code depth inner)) sites entries
    (omega arith) (omega (arith, length-append inner tail)) (h (stands_left code (start + 1) inner tail rest))

operand_holds : (code : List ℕ) (e : FirstExpr) (start depth : ℕ)
    → (Stands code (start + 1) (expression_code (depth + 1) e)
    → Hold code (start + 1) (start + 1 + length (expression_code (depth + 1) e)) (expression_sites e) (expression_entries (start + 1) (depth + 1) e))
    → Stands code start (operand_code depth e (expression_code (depth + 1) e))
    → Hold code start (start + length (operand_code depth e (expression_code (depth + 1) e))) (expression_sites e) (expression_entries (start + 1) (depth + 1) e)
operand_holds code (Int n) start depth h s = hold_none code start _
operand_holds code (Add' tok at _ (boxed left _) _ (boxed right _)) start depth h s = kept_holds code depth start _ _ _ s h
operand_holds code (Sub' tok at _ (boxed left _) _ (boxed right _)) start depth h s = kept_holds code depth start _ _ _ s h

-- a call, by its operands
both_hold : (code : List ℕ) (op : Operator) (tok : ℕ) (at : Pos) (left right : FirstExpr) (start depth : ℕ)
    → ((start depth : ℕ) → Stands code start (expression_code depth left)
    → Hold code start (start + length (expression_code depth left)) (expression_sites left) (expression_entries start depth left))
    → ((start depth : ℕ) → Stands code start (expression_code depth right)
    → Hold code start (start + length (expression_code depth right)) (expression_sites right) (expression_entries start depth right))
    → Stands code start (call_code op (expression_code depth left) (operand_code depth right (expression_code (depth + 1) right)))
    → Hold code start (start + length (call_code op (expression_code depth left) (operand_code depth right (expression_code (depth + 1) right))))
    (site (called op) tok at ∷ (expression_sites left ++ expression_sites right))
    (call_entries op at start (expression_code depth left) (operand_code depth right (expression_code (depth + 1) right))
    (expression_entries start depth left) (expression_entries (start + length (expression_code depth left) + 1) (depth + 1) right))
both_hold code op tok at left right start depth h h' s =
    let first = expression_code depth left in
    let second = operand_code depth right (expression_code (depth + 1) right) in
    let tail = operator_code op ++ Addi 24 24 (pos 1) ∷ [] in
    let middle = start + length first in
    call_holds code op tok at start first second _ _ _ _ s
    (h start depth (stands_left code start first (second ++ tail) s))
    (operand_holds code right middle depth (h' (middle + 1) (depth + 1)) (stands_left code middle second tail (stands_right code start first (second ++ tail) s)))

expression_holds : (code : List ℕ) (e : FirstExpr) (start depth : ℕ) → Stands code start (expression_code depth e)
    → Hold code start (start + length (expression_code depth e)) (expression_sites e) (expression_entries start depth e)
expression_holds code (Int n) start depth s = hold_none code start _
expression_holds code (Add' tok at _ (boxed left _) _ (boxed right _)) start depth s =
    both_hold code operator.Add tok at left right start depth (expression_holds code left) (expression_holds code right) s
expression_holds code (Sub' tok at _ (boxed left _) _ (boxed right _)) start depth s =
    both_hold code operator.Sub tok at left right start depth (expression_holds code left) (expression_holds code right) s

-- ---- statements

outs_hold : (code : List ℕ) (outs : List FirstExpr) (start : ℕ) → Stands code start (flat_map out_code outs)
    → Hold code start (start + length (flat_map out_code outs)) (flat_map expression_sites outs) (entries_from start outs)
outs_hold code [] start s = hold_none code start _
outs_hold code (e ∷ es) start s =
    let own = expression_code 0 e in
    let tail = Addi 10 8 (pos 0) ∷ environment_code (pos 3) in
    let rest = flat_map out_code es in
    let middle = start + length (out_code e) in
    let h = expression_holds code e start 0 (stands_left code start own tail (stands_left code start (out_code e) rest s)) in
    let h' = outs_hold code es middle (stands_right code start (out_code e) rest s) in
    let wider = hold_wider code start (start + length own) start middle _ _ (omega arith) (omega (arith, length-append own tail)) h in
    let end : middle + length rest ≡ start + length (out_code e ++ rest) = omega (arith, length-append (out_code e) rest) in
    subst (λ high. Hold code start high (expression_sites e ++ flat_map expression_sites es) (expression_entries start 0 e ++ entries_from middle es)) end
    (hold_append code start middle (middle + length rest) _ _ _ _ (omega arith) (omega arith) wider h')

module _ (first : First) where
  abbrev outs : List Instr
  outs = flat_map out_code first.outs

  abbrev code : List ℕ
  code = map encoded (code_of first)

  held : Hold code 1 (1 + length outs) (sites_of first) (entries_from 1 first.outs)
  held =
      let tail = environment_code (pos 4) in
      let head = Lui 26 0x10000 ∷ [] in
      let whole : Stands code 0 (code_of first) = record { front = []; back = []; whole = sym (append-nil code); place = refl } in
      outs_hold code first.outs 1 (stands_left code 1 outs tail (stands_right code 0 head (outs ++ tail) whole))

  -- each site of a source has its entry in the image
  pub holds : HoldsSites (sites_of first) (map in_full (sites_of first)) (image_of first)
  holds = record { entries = held.told; apart = held.apart }

  -- whose words lie in the code
  pub entries_lie : All (LiesIn 1 (length code)) (entries_from 1 first.outs)
  entries_lie =
      let end : 1 + length outs ≤ length code = omega (arith, length-append outs (environment_code (pos 4)), length-map (code_of first) encoded) in
      (hold_wider code 1 (1 + length outs) 1 (length code) (sites_of first) (entries_from 1 first.outs) (omega arith) end held).inside
