-- What was read already, and what is read after it.
use Rattle.std.proofs.Common.{◌≡◌, ℕ, Bool, List, ◌++◌, ap, subst, ◌∙◌, sym}
use Rattle.std.proofs.lemmas.List.{append_assoc}
use Rattle.std.specs.Prelude.{Result, Ok, Err}
use Rattle.c_grammar.specs.declared.symbol.Symbol.{Symbol}
use Rattle.c_grammar.specs.Parts.{Part}
use Rattle.c_grammar.specs.Spelling.{Spells}
use Rattle.c_grammar.specs.Spots.{Spot}
use Rattle.right_reading.specs.Stream.{Fault}
use Rattle.right_reading.specs.Right.{first, Stops, HasFront, Right}

module _ {A : Type 0} (of : A → List Part) (limit : ℕ) (stops : A → Symbol → Bool) (before : List Spot) where
  -- what is right after more tokens is right from before them on
  pub unshift : (m i j : List Spot) → i ≡ m ++ j → (y : Result (A × List Spot) Fault) → Right of limit stops (before ++ m) j y → Right of limit stops before i y
  unshift m i j whole (Ok y) r =
      let only = λ (a' : A) (c : ℕ) (v s t : List Spot) (sp : Spells (of a') c v) (st : Stops stops a' s) (e : v ++ s ≡ before ++ ((m ++ r.more) ++ t)) (h : first t ≡ first y.1).
      let e2 : v ++ s ≡ (before ++ m) ++ (r.more ++ t) = e ∙ simp append_assoc in
      r.only a' c v s t sp st e2 h in
      record {
        more = m ++ r.more;
        depth = r.depth;
        whole = whole ∙ ap (λ (w : List Spot). m ++ w) r.whole ∙ sym (append_assoc m r.more y.1);
        spelled = subst (λ (w : List Spot). Spells (of y.0) r.depth w) (append_assoc before m r.more) r.spelled;
        within = r.within;
        ends = r.ends;
        only = only;
      }
  unshift m i j whole (Err f) r =
      let dead = λ (a' : A) (c : ℕ) (v s t : List Spot) (sp : Spells (of a') c v) (st : Stops stops a' s) (e : v ++ s ≡ before ++ ((m ++ r.more) ++ t)) (h : first t ≡ first r.rest).
      let e2 : v ++ s ≡ (before ++ m) ++ (r.more ++ t) = e ∙ simp append_assoc in
      r.dead a' c v s t sp st e2 h in
      record {
        more = m ++ r.more;
        rest = r.rest;
        whole = whole ∙ ap (λ (w : List Spot). m ++ w) r.whole ∙ sym (append_assoc m r.more r.rest);
        place = r.place;
        ends = r.ends;
        dead = dead;
        front = subst (λ (w : List Spot). HasFront of limit f.deep w r.rest) (append_assoc before m r.more) r.front;
      }
