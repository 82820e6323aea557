-- What the definitions by cases give for a call of an operator, and for one more statement.
use Rattle.std.proofs.Common.{◌≡◌, ℕ, ◌+◌, ◌≤◌, ◌<◌, ◌∷◌, [], ◌++◌, List, length, map, set, get_or, take, ap, sym, subst, ◌∙◌, arith, add-one, append_assoc, length-append}
use Rattle.std.proofs.Math.Seq.{set-append_seam, take-suc}
use Rattle.std.proofs.lemmas.List.{length-map, append-nil, map-append, flat_map_more}
use Rattle.std.proofs.lemmas.List.Folds.{length-flat_map-take}
use Rattle.std.specs.List.{flat_map}
use Rattle.sat_base.specs.declared.position.Pos.{Pos}
use Rattle.first_form.specs.Form.{HasOperands}
use Rattle.first_form.specs.declared.first.FirstExpr.{FirstExpr}
use Rattle.first_form.specs.declared.first.FirstExpr.TheVariants.{Add, Sub}
use Rattle.first_form.proofs.Calls.{Add-boxed, Sub-boxed}
use Rattle.image_format.specs.declared.image.SiteEntry.{SiteEntry}
use Rattle.rv_encode.specs.declared.instruction.Instr.{Instr}
use Rattle.rv_encode.specs.Words.{encoded}
use Rattle.sat_compile.specs.declared.emit.Operator.{Operator}
use Rattle.sat_compile.specs.declared.emit.Operator.TheVariants as operator
use Rattle.sat_compile.specs.Emission.{call_code, operand_code, expression_code, out_code, entry_of, call_entries, expression_entries, entries_from}

-- ---- a call of an operator

pub code_of_add : (depth tok : ℕ) (at : Pos) (left right : FirstExpr) → expression_code depth (Add tok at left right) ≡ call_code operator.Add (expression_code depth left) (operand_code depth right (expression_code (depth + 1) right))
code_of_add depth tok at left right = ap (expression_code depth) (Add-boxed tok at left right)

pub code_of_sub : (depth tok : ℕ) (at : Pos) (left right : FirstExpr) → expression_code depth (Sub tok at left right) ≡ call_code operator.Sub (expression_code depth left) (operand_code depth right (expression_code (depth + 1) right))
code_of_sub depth tok at left right = ap (expression_code depth) (Sub-boxed tok at left right)

pub entries_of_add : (start depth tok : ℕ) (at : Pos) (left right : FirstExpr) → expression_entries start depth (Add tok at left right) ≡
    call_entries operator.Add at start (expression_code depth left) (operand_code depth right (expression_code (depth + 1) right))
    (expression_entries start depth left) (expression_entries (start + length (expression_code depth left) + 1) (depth + 1) right)
entries_of_add start depth tok at left right = ap (expression_entries start depth) (Add-boxed tok at left right)

pub entries_of_sub : (start depth tok : ℕ) (at : Pos) (left right : FirstExpr) → expression_entries start depth (Sub tok at left right) ≡
    call_entries operator.Sub at start (expression_code depth left) (operand_code depth right (expression_code (depth + 1) right))
    (expression_entries start depth left) (expression_entries (start + length (expression_code depth left) + 1) (depth + 1) right)
entries_of_sub start depth tok at left right = ap (expression_entries start depth) (Sub-boxed tok at left right)

pub operands_of_add : (tok : ℕ) (at : Pos) (left right : FirstExpr) → HasOperands (Add tok at left right) → HasOperands left × HasOperands right
operands_of_add tok at left right h = subst HasOperands (Add-boxed tok at left right) h

pub operands_of_sub : (tok : ℕ) (at : Pos) (left right : FirstExpr) → HasOperands (Sub tok at left right) → HasOperands left × HasOperands right
operands_of_sub tok at left right h = subst HasOperands (Sub-boxed tok at left right) h

-- ---- code and entries one after another

-- how long the words are with the words of more instructions
pub length_more : (before after : List ℕ) (more : List Instr) → after ≡ before ++ map encoded more → length after ≡ length before + length more
length_more before after more e = ap length e ∙ length-append before (map encoded more) ∙ ap (λ n. length before + n) (length-map more encoded)

-- after a left operand there is room for the right one
pub room_for_right : (most : ℕ) (before after : List ℕ) (left right rest : List Instr) → length before + length (left ++ (right ++ rest)) ≤ most → after ≡ before ++ map encoded left → length after + length right ≤ most
room_for_right most before after left right rest fits e =
    let long = length_more before after left e in
    let whole = length-append left (right ++ rest) in
    let more = length-append right rest in
    omega (arith, long, fits, whole, more)

-- the entry that stands before those of the operands is replaced
entry_filled : (old lefts rights : List SiteEntry) (placeholder entry : SiteEntry) → set (((old ++ placeholder ∷ []) ++ lefts) ++ rights) (length old) entry ≡ old ++ entry ∷ (lefts ++ rights)
entry_filled old lefts rights placeholder entry =
    ap (λ (xs : List SiteEntry). set xs (length old) entry) (ap (λ (xs : List SiteEntry). xs ++ rights) (append_assoc old (placeholder ∷ []) lefts) ∙ append_assoc old (placeholder ∷ lefts) rights)
    ∙ set-append_seam old placeholder (lefts ++ rights) entry

pub sites_of_call : (op : Operator) (at : Pos) (depth : ℕ) (left right : FirstExpr) (code code-left code-right : List ℕ)
    (sites sites-call sites-left sites-right : List SiteEntry) (placeholder entry : SiteEntry) (index : ℕ) →
    code-left ≡ code ++ map encoded (expression_code depth left) →
    code-right ≡ code-left ++ map encoded (operand_code depth right (expression_code (depth + 1) right)) →
    index ≡ length sites →
    sites-call ≡ sites ++ placeholder ∷ [] →
    sites-left ≡ sites-call ++ expression_entries (length code) depth left →
    sites-right ≡ sites-left ++ expression_entries (length code-left + 1) (depth + 1) right →
    entry ≡ entry_of op (length code-right) at →
    set sites-right index entry ≡ sites ++ call_entries op at (length code) (expression_code depth left) (operand_code depth right (expression_code (depth + 1) right))
    (expression_entries (length code) depth left) (expression_entries (length code + length (expression_code depth left) + 1) (depth + 1) right)
sites_of_call op at depth left right code code-left code-right sites sites-call sites-left sites-right placeholder entry index at-left at-right at-index e-call e-left e-right e-entry =
    let long-left = length_more code code-left (expression_code depth left) at-left in
    let long-right = length_more code-left code-right (operand_code depth right (expression_code (depth + 1) right)) at-right in
    let lefts = expression_entries (length code) depth left in
    let rights = λ (n : ℕ). expression_entries (n + 1) (depth + 1) right in
    let r = rights (length code + length (expression_code depth left)) in
    let begun : sites-left ≡ (sites ++ placeholder ∷ []) ++ lefts = e-left ∙ ap (λ (xs : List SiteEntry). xs ++ lefts) e-call in
    let whole : sites-right ≡ ((sites ++ placeholder ∷ []) ++ lefts) ++ r = e-right ∙ ap (λ (xs : List SiteEntry). xs ++ rights (length code-left)) begun ∙ ap (λ (n : ℕ). ((sites ++ placeholder ∷ []) ++ lefts) ++ rights n) long-left in
    let first : length code-right ≡ length code + length (expression_code depth left) + length (operand_code depth right (expression_code (depth + 1) right)) = omega (arith, long-left, long-right) in
    ap (λ (xs : List SiteEntry). set xs index entry) whole
    ∙ ap (λ (k : ℕ). set (((sites ++ placeholder ∷ []) ++ lefts) ++ r) k entry) at-index
    ∙ entry_filled sites lefts r placeholder entry
    ∙ ap (λ (s : SiteEntry). sites ++ s ∷ (lefts ++ r)) (e-entry ∙ ap (λ (n : ℕ). entry_of op n at) first)

-- ---- statements

-- the entries with those of one more statement
pub entries_more : (start : ℕ) (outs : List FirstExpr) (e : FirstExpr) → entries_from start (outs ++ e ∷ []) ≡ entries_from start outs ++ expression_entries (start + length (flat_map out_code outs)) 0 e
entries_more start [] e = append-nil (expression_entries start 0 e) ∙ ap (λ (n : ℕ). expression_entries n 0 e) (let same : start ≡ start + 0 = omega arith in same)
entries_more start (x ∷ xs) e =
    let begun = expression_entries start 0 x in
    let rest = entries_from (start + length (out_code x)) xs in
    let long = length-append (out_code x) (flat_map out_code xs) in
    let same : start + length (out_code x) + length (flat_map out_code xs) ≡ start + length (out_code x ++ flat_map out_code xs) = omega (arith, long) in
    ap (λ (es : List SiteEntry). begun ++ es) (entries_more (start + length (out_code x)) xs e)
    ∙ sym (append_assoc begun rest (expression_entries (start + length (out_code x) + length (flat_map out_code xs)) 0 e))
    ∙ ap (λ (n : ℕ). (begun ++ rest) ++ expression_entries n 0 e) same

-- the statements before the next place
pub taken_more : (outs : List FirstExpr) (i : ℕ) (e : FirstExpr) → i < length outs → e ≡ get_or outs i e → take (i + 1) outs ≡ take i outs ++ e ∷ []
taken_more outs i e within is = ap (λ (n : ℕ). take n outs) (add-one i) ∙ take-suc outs i e within ∙ ap (λ (x : FirstExpr). take i outs ++ x ∷ []) (sym is)

-- the words with those of one more statement
pub words_with : (base now next : List ℕ) (before after : List FirstExpr) (e : FirstExpr) → after ≡ before ++ e ∷ [] → now ≡ base ++ map encoded (flat_map out_code before) → next ≡ now ++ map encoded (out_code e) → next ≡ base ++ map encoded (flat_map out_code after)
words_with base now next before after e more begun added =
    let done = flat_map out_code before in
    added
    ∙ ap (λ (words : List ℕ). words ++ map encoded (out_code e)) begun
    ∙ append_assoc base (map encoded done) (map encoded (out_code e))
    ∙ ap (λ (words : List ℕ). base ++ words) (sym (map-append encoded done (out_code e)))
    ∙ ap (λ (code : List Instr). base ++ map encoded code) (flat_map_more out_code [] before e ∙ ap (flat_map out_code) (sym more))

-- the entries with those of one more statement, whose code begins after the words
pub sites_with : (base now : List ℕ) (sites-base sites-now sites-next : List SiteEntry) (before after : List FirstExpr) (e : FirstExpr) → after ≡ before ++ e ∷ [] → now ≡ base ++ map encoded (flat_map out_code before) →
    sites-now ≡ sites-base ++ entries_from (length base) before → sites-next ≡ sites-now ++ expression_entries (length now) 0 e → sites-next ≡ sites-base ++ entries_from (length base) after
sites_with base now sites-base sites-now sites-next before after e more begun sites-begun added =
    let done = entries_from (length base) before in
    let place = length base + length (flat_map out_code before) in
    added
    ∙ ap (λ (es : List SiteEntry). es ++ expression_entries (length now) 0 e) sites-begun
    ∙ ap (λ (n : ℕ). (sites-base ++ done) ++ expression_entries n 0 e) (length_more base now (flat_map out_code before) begun)
    ∙ append_assoc sites-base done (expression_entries place 0 e)
    ∙ ap (λ (es : List SiteEntry). sites-base ++ es) (sym (entries_more (length base) before e) ∙ ap (entries_from (length base)) (sym more))

-- there is room for the next statement
pub room_for_next : (most : ℕ) (base now : List ℕ) (outs : List FirstExpr) (i : ℕ) (e : FirstExpr) → length base + length (flat_map out_code outs) ≤ most → i < length outs → e ≡ get_or outs i e → now ≡ base ++ map encoded (flat_map out_code (take i outs)) → length now + length (out_code e) ≤ most
room_for_next most base now outs i e fits within is begun =
    let long = length_more base now (flat_map out_code (take i outs)) begun in
    let part = length-flat_map-take out_code outs i e within in
    let next : length (out_code e) ≡ length (out_code (get_or outs i e)) = ap (λ (x : FirstExpr). length (out_code x)) is in
    omega (arith, long, part, next, fits)
