use Rattle.std.proofs.Common.{◌≡◌, ℕ, List, [], map, refl, sym, subst, ap, ◌∙◌}
use Rattle.std.specs.List.Sorted.{IsPermutation, IsNonDecreasingBy, IsStableByKey}
use Rattle.std.specs.Ordering.{nat_cmp}
use Rattle.operator_meaning.specs.declared.object.Site.{Site}
use Rattle.tied_names.specs.declared.note.Note.{Note}
use Rattle.tied_names.specs.Numbers.{sites_in, token_of, exposed_in}
use Rattle.c_types.specs.Constants.{constants_of}
use Rattle.c_types.specs.Sources.{Source, tied_source}
use Rattle.c_types.specs.Tied.{notes_of}
use Rattle.c_types.proofs.tying.tied.Goals as goal

pub returns : goal.returns
returns c =
    let source : List ℕ → List ℕ → Source = tied_source c.args.program.now.items in
    let found : c.in_ok-found.found.notes.items ≡ notes_of c.args.program.now =
    c.in_ok-found.ensures.notes ∙ ap (λ (t : List ℕ). (source t c.nothing-nothing.result.exposed.keys).notes) c.nothing-nothing.ensures.tokens ∙ ap (λ (x : List ℕ). (source [] x).notes) c.nothing-nothing.ensures.exposed in
    let sites : c.from_vec.result ≡ c.in_ok-sites.sites.items = c.from_vec.ensures in
    let tokens : c.in_ok-facts.facts.tokens ≡ map token_of c.from_vec.result = c.in_ok-facts.ensures.tokens ∙ ap (map token_of) (c.as_slice-2.ensures.value ∙ sym sites) in
    let exposed : c.in_ok-facts.facts.exposed.keys ≡ exposed_in [] (notes_of c.args.program.now) = c.in_ok-facts.ensures.exposed ∙ ap (exposed_in []) (c.as_slice-3.ensures.value ∙ found) in
    let whole : source c.in_ok-facts.facts.tokens c.in_ok-facts.facts.exposed.keys ≡ source (map token_of c.from_vec.result) (exposed_in [] (notes_of c.args.program.now)) =
    ap (λ (t : List ℕ). source t c.in_ok-facts.facts.exposed.keys) tokens ∙ ap (source (map token_of c.from_vec.result)) exposed in
    record {
      sites =
          subst (λ (l : List Note). IsPermutation (sites_in l) c.from_vec.result) (c.as_slice.ensures.value ∙ found)
          (subst (λ (l : List Site). IsPermutation (sites_in c.as_slice.result.now) l) (sym sites) c.in_ok-sites.ensures.same);
      in_order = subst (IsNonDecreasingBy token_of) (sym sites) c.in_ok-sites.ensures.in_order;
      stable =
          subst (λ (l : List Note). IsStableByKey token_of nat_cmp (sites_in l) c.from_vec.result) (c.as_slice.ensures.value ∙ found)
          (subst (λ (l : List Site). IsStableByKey token_of nat_cmp (sites_in c.as_slice.result.now) l) (sym sites) c.in_ok-sites.ensures.stable);
      objects = c.in_ok-whole.ensures.objects ∙ ap (λ (s : Source). s.here.objects) whole;
      functions = c.in_ok-whole.ensures.functions ∙ ap (λ (s : Source). s.functions) whole;
      constants = c.in_ok-constants.ensures ∙ ap constants_of (c.as_slice-4.ensures.value ∙ c.in_ok-seen.ensures);
      weights = refl;
    }
