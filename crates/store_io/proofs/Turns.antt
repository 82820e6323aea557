-- What the turns of a loop over reads or writes come to.
use Rattle.std.proofs.Common.{◌≡◌, ℕ, ◌+◌, ◌-◌, ◌<◌, ◌≤◌, ◌⊎◌, inl, inr, List, [], ◌++◌, length, take, drop, Option, Some, None, Result, Ok, Err, OnErr, refl, sym, ap, subst, ◌∙◌, arith, append_assoc}
use Rattle.std.proofs.lemmas.List.{append-nil, take-append-drop, take_all, length-drop}
use Rattle.std.proofs.Math.Seq.{take-append_seam}
use Rattle.std.specs.Io.KnownBytes.{Appends, Consumes, Keeps, IsAtEnd}
use Rattle.store_io.specs.Stream.{GivesUpTo, GivesMore, AppendsPart}

-- nothing is read yet
pub consumes-nothing : (left : Option (List ℕ)) → Consumes left left []
consumes-nothing None = tt
consumes-nothing (Some xs) = refl

-- one more piece
pub consumes-more : (left mid rest : Option (List ℕ)) (before after : List ℕ) → Consumes left mid before → GivesMore mid rest before after → Consumes left rest after
consumes-more None mid rest before after c more = tt
consumes-more (Some xs) None rest before after c more = absurd c
consumes-more (Some xs) (Some ys) None before after c more = absurd more.2
consumes-more (Some xs) (Some ys) (Some zs) before after c more =
    c ∙ ap (λ (ws : List ℕ). before ++ ws) more.2 ∙ sym (append_assoc before more.0 zs) ∙ ap (λ (ws : List ℕ). ws ++ zs) (sym more.1)

-- the bytes that were read, once no more are wanted or left
pub gives_up_to : (left rest : Option (List ℕ)) (most : ℕ) (bytes : List ℕ) → Consumes left rest bytes → IsAtEnd rest ⊎ (most < length bytes) → length bytes ≤ most + 1 → GivesUpTo left most bytes
gives_up_to None rest most bytes c end bound = tt
gives_up_to (Some xs) None most bytes c end bound = absurd c
gives_up_to (Some xs) (Some ys) most bytes c end bound =
    elim end [
      | inl none ↦ sym (ap (λ (zs : List ℕ). take (most + 1) zs) (c ∙ ap (λ (zs : List ℕ). bytes ++ zs) none ∙ append-nil bytes) ∙ take_all (most + 1) bytes bound)
      | inr full ↦ let exact : most + 1 ≡ length bytes = omega arith in
          sym (ap (λ (zs : List ℕ). take (most + 1) zs) c ∙ ap (λ (n : ℕ). take n (bytes ++ ys)) exact ∙ take-append_seam bytes ys)
    ]

-- what is written of some bytes where the rest is still to come
abbrev pub WroteTo : Option (List ℕ) → Option (List ℕ) → List ℕ → List ℕ → Type 0
WroteTo old new bytes rest = (done : List ℕ) × (bytes ≡ done ++ rest) × Appends old new done

appends-nothing : (old : Option (List ℕ)) → Appends old old []
appends-nothing None = tt
appends-nothing (Some xs) = sym (append-nil xs)

appends-more : (old mid new : Option (List ℕ)) (before more : List ℕ) → Appends old mid before → Appends mid new more → Appends old new (before ++ more)
appends-more None mid new before more a b = tt
appends-more (Some xs) None new before more a b = absurd a
appends-more (Some xs) (Some ys) None before more a b = absurd b
appends-more (Some xs) (Some ys) (Some zs) before more a b = b ∙ ap (λ (ws : List ℕ). ws ++ more) a ∙ append_assoc xs before more

appends-kept : (old mid new : Option (List ℕ)) (bytes : List ℕ) → Appends old mid bytes → Keeps mid new → Appends old new bytes
appends-kept None mid new bytes a k = tt
appends-kept (Some xs) None new bytes a k = absurd a
appends-kept (Some xs) (Some ys) None bytes a k = absurd k
appends-kept (Some xs) (Some ys) (Some zs) bytes a k = k ∙ a

-- nothing changed
pub keeps_itself : (old : Option (List ℕ)) → Keeps old old
keeps_itself None = tt
keeps_itself (Some xs) = refl

-- nothing is written yet
pub wrote-nothing : (old : Option (List ℕ)) (bytes : List ℕ) → WroteTo old old bytes bytes
wrote-nothing old bytes = ([], refl, appends-nothing old)

-- one more piece; the rest is spelled as the code cuts it
pub wrote-more : (old mid new : Option (List ℕ)) (bytes rest : List ℕ) (count : ℕ) → WroteTo old mid bytes rest → Appends mid new (take count rest) → WroteTo old new bytes (take (length rest - count) (drop count rest))
wrote-more old mid new bytes rest count w b = (
  w.0 ++ take count rest,
  w.1 ∙ ap (λ (zs : List ℕ). w.0 ++ zs) (sym (take-append-drop count rest)) ∙ sym (append_assoc w.0 (take count rest) (drop count rest))
      ∙ ap (λ (zs : List ℕ). (w.0 ++ take count rest) ++ zs) (sym (take_all (length rest - count) (drop count rest) (omega (arith, length-drop count rest)))),
  appends-more old mid new w.0 (take count rest) w.2 b,
)

-- all is written
pub wrote-all : (old mid new : Option (List ℕ)) (bytes rest : List ℕ) → WroteTo old mid bytes rest → rest ≡ [] → Keeps mid new → Appends old new bytes
wrote-all old mid new bytes rest w none k =
    subst (λ (zs : List ℕ). Appends old new zs) (sym (w.1 ∙ ap (λ (zs : List ℕ). w.0 ++ zs) none ∙ append-nil w.0)) (appends-kept old mid new w.0 w.2 k)

-- no more is written
pub wrote-part : (old mid new : Option (List ℕ)) (bytes rest : List ℕ) → WroteTo old mid bytes rest → Keeps mid new → AppendsPart old new bytes
wrote-part old mid new bytes rest w k = (
  length w.0,
  subst (λ (zs : List ℕ). Appends old new zs) (sym (ap (λ (zs : List ℕ). take (length w.0) zs) w.1 ∙ take-append_seam w.0 rest)) (appends-kept old mid new w.0 w.2 k),
)

-- what holds in any case holds at an error
pub at_error : {T E P : Type 0} (r : Result T E) → P → OnErr r P
at_error (Ok x) p = tt
at_error (Err e) p = p
