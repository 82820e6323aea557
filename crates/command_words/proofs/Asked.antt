-- Words ask for one thing at most.
use Rattle.std.proofs.Common.{◌≡◌, ℕ, List, length, codes, sym, ap, ◌∙◌, arith}
use Rattle.command_words.specs.Command.{Command, Build, RunImage, RunSource, IsCommand}
use Rattle.command_words.specs.Numbers.{number_in}

-- the two verbs of runs differ
apart : codes "run-image" ≡ codes "run-source" → ⊥
apart same = let long : 9 ≡ 10 = ap length same in omega (arith, long)

pub one_command : (words : List (List ℕ)) (one other : Command) → IsCommand words one → IsCommand words other → one ≡ other
one_command words (Build s t) (Build u v) p q = let a = p.0 in let b = q.0 in cc
one_command words (Build s t) (RunImage u v w n) p q = let a = p.0 in let b = q.are in cc
one_command words (Build s t) (RunSource u v w n) p q = let a = p.0 in let b = q.are in cc
one_command words (RunImage u v w n) (Build s t) p q = let a = p.are in let b = q.0 in cc
one_command words (RunImage u v w n) (RunImage x y z m) p q =
    let a = p.are in
    let b = q.are in
    let same : p.digits ≡ q.digits = cc in
    let counted : n ≡ m = p.counted.value ∙ ap number_in same ∙ sym q.counted.value in
    cc
one_command words (RunImage u v w n) (RunSource x y z m) p q =
    let a = p.are in
    let b = q.are in
    let verbs : codes "run-image" ≡ codes "run-source" = cc in
    absurd (apart verbs)
one_command words (RunSource u v w n) (Build s t) p q = let a = p.are in let b = q.0 in cc
one_command words (RunSource u v w n) (RunImage x y z m) p q =
    let a = p.are in
    let b = q.are in
    let verbs : codes "run-image" ≡ codes "run-source" = cc in
    absurd (apart verbs)
one_command words (RunSource u v w n) (RunSource x y z m) p q =
    let a = p.are in
    let b = q.are in
    let same : p.digits ≡ q.digits = cc in
    let counted : n ≡ m = p.counted.value ∙ ap number_in same ∙ sym q.counted.value in
    cc
