-- The number of a mark that is a site is the place of its site among all, where no two sites have one token.
use Rattle.std.proofs.Common.{◌≡◌, ℕ, ◌<◌, List, [], ◌∷◌, ◌++◌, true, map, length, refl, sym, ap, ◌∙◌, arith}
use Rattle.std.specs.Prelude.{flat_map, slice_get, slice_index_or, Some, None, ◌==◌}
use Rattle.std.specs.List.{All, list_all}
use Rattle.std.specs.List.Sorted.{IsPermutation, IsStrictlyIncreasing}
use Rattle.std.proofs.lemmas.Bool.{eqb-true, eq-eqb}
use Rattle.std.proofs.lemmas.List.{length-map, get_or-map}
use Rattle.std.proofs.lemmas.List.Elements.{All-nil, All-cons, All-head, All-tail, All-map}
use Rattle.std.proofs.lemmas.List.Sorted.{All-permutation, IsPermutation-map, IsPermutation-sym, IsPermutation-trans}
use Rattle.std.proofs.lemmas.List.Sums.{list_all-from_AllPass}
use Rattle.std.proofs.lemmas.Option.{slice_get-get_or}
use Rattle.sat_base.specs.declared.name.At.{At}
use Rattle.c_tree.specs.declared.program.Program.{Program}
use Rattle.c_typed.specs.declared.typed.Typed.{Typed}
use Rattle.operator_meaning.specs.declared.object.Site.{Site}
use Rattle.tied_names.specs.Numbers.{number_in, token_of}
use Rattle.c_types.specs.Tied.{IsTied, IsTyped}
use Rattle.c_types.proofs.Rising.{number-place}
use Rattle.lawful_laws.specs.Laws.{HasOwnTokens}
use Rattle.lawful_laws.proofs.Functions.{both, left, right}
use Rattle.lawful_laws.proofs.Sites.{tokens-rise}
use Rattle.lawful_sources.specs.Things.{Thing, Mark}
use Rattle.lawful_sources.specs.Lawful.{at_of}
use Rattle.lawful_sources.specs.Rows.{is_of, mark_is_numbered, sites_standing}
use Rattle.lawful_sources.specs.Statements.{in_source}
use Rattle.lawful_names.proofs.Clean.{is_clean, when-clean}
use Rattle.lawful_names.proofs.Faultless.{AnyShape, any-shapes, seen-clean}
use Rattle.lawful_sites.proofs.Items.{Standing, sites-stand}
use Rattle.lawful_sites.proofs.Marks.{any-keeps}
use Rattle.lawful_sites.proofs.Sited.{keyed, is_numbered}

-- the place of a site is its number
pub site-at : (sites : List Site) → IsStrictlyIncreasing (map token_of sites) → (k : ℕ) (d : Site) → k < length sites → slice_get sites (number_in (map token_of sites) (slice_index_or sites k d).tok) ≡ Some (slice_index_or sites k d)
site-at sites up k d less =
    let number : number_in (map token_of sites) (slice_index_or (map token_of sites) k 0) ≡ k = number-place (map token_of sites) up k (omega (arith, length-map sites token_of, less)) in
    ap (λ (n : ℕ). slice_get sites (number_in (map token_of sites) n)) (sym (get_or-map token_of sites k d 0 less)) ∙ ap (slice_get sites) number ∙ slice_get-get_or sites k d less

-- ---- what holds of all

all-apart : {A : Type 0} (P : A → Type 0) (xs ys : List A) → All P (xs ++ ys) → All P xs × All P ys
all-apart P [] ys p = (All-nil P, p)
all-apart P (x ∷ xs) ys p = let rest : All P xs × All P ys = all-apart P xs ys (All-tail P x (xs ++ ys) p) in (All-cons P x xs (All-head P x (xs ++ ys) p) rest.0, rest.1)

-- what each thing has by the number of its mark and by what is there of its key, each thing of a source has
module _ {K : Type 0} (key : Site → K) where
  things-hold : (tokens : List ℕ) (There : K → Type 0) (Holds : Thing → Type 0) → ((thing : Thing) → is_numbered tokens thing ≡ true → All There (keyed key thing) → Holds thing)
      → (things : List Thing) → list_all (is_numbered tokens) things ≡ true → All There (flat_map (keyed key) things) → All Holds things
  things-hold tokens There Holds one [] p q = All-nil Holds
  things-hold tokens There Holds one (thing ∷ things) p q =
      let parts : All There (keyed key thing) × All There (flat_map (keyed key) things) = all-apart There (keyed key thing) (flat_map (keyed key) things) q in
      All-cons Holds thing things (one thing (left (is_numbered tokens thing) _ p) parts.0) (things-hold tokens There Holds one things (right (is_numbered tokens thing) _ p) parts.1)

  keys-stand : (program : Program) (source : Typed) → IsTied program source → Standing key program source → IsPermutation (flat_map (keyed key) (in_source source)) (map key source.sites)
  keys-stand program source tied stands = IsPermutation-trans _ _ _ stands.sites (IsPermutation-map key _ _ tied.sites)

  pub stands-hold : (program : Program) (source : Typed) → IsTied program source → Standing key program source → (There : K → Type 0) (Holds : Thing → Type 0)
      → ((thing : Thing) → is_numbered (map token_of source.sites) thing ≡ true → All There (keyed key thing) → Holds thing) → All (λ site. There (key site)) source.sites → All Holds (in_source source)
  stands-hold program source tied stands There Holds one all =
      things-hold (map token_of source.sites) There Holds one (in_source source) stands.numbered (All-permutation There (map key source.sites) _ (IsPermutation-sym _ _ (keys-stand program source tied stands)) (All-map There key source.sites all))

-- the site of the number of a token is at it
abbrev IsAt : Typed → At → Type 0
IsAt source at = is_of at (slice_get source.sites (number_in (map token_of source.sites) at.tok)) ≡ true

of-itself : (site : Site) → is_of (at_of site) (Some site) ≡ true
of-itself site = both (site.tok == site.tok) _ (eq-eqb _ _ refl) (both (site.pos.line == site.pos.line) _ (eq-eqb _ _ refl) (eq-eqb _ _ refl))

-- a mark that is numbered has the site that is there
thing-there : (source : Typed) (thing : Thing) → is_numbered (map token_of source.sites) thing ≡ true → All (IsAt source) (keyed at_of thing) → mark_is_numbered source thing ≡ true
thing-there source (Mark at None kind) p q = p
thing-there source (Mark at (Some number) None) p q = p
thing-there source (Mark at (Some number) (Some kind)) p q = ap (λ (n : ℕ). is_of at (slice_get source.sites n)) (eqb-true number _ p) ∙ All-head (IsAt source) at [] q
thing-there source thing p q = refl

-- ---- sources

standing : (program : Program) (source : Typed) → IsTyped program source → Standing at_of program source
standing program source is =
    sites-stand at_of program source AnyShape is_clean when-clean any-shapes (any-keeps at_of (λ at one other. refl) source program.items AnyShape is_clean) is.tied (seen-clean program is.faultless)

pub stand-once : (program : Program) (source : Typed) → IsTyped program source → IsPermutation (sites_standing (in_source source)) (map at_of source.sites)
stand-once program source is = keys-stand at_of program source is.tied (standing program source is)

pub are-numbered : (program : Program) (source : Typed) → IsTyped program source → HasOwnTokens source → list_all (mark_is_numbered source) (in_source source) ≡ true
are-numbered program source is own =
    list_all-from_AllPass (mark_is_numbered source) (in_source source)
    (stands-hold at_of program source is.tied (standing program source is) (IsAt source) (λ thing. mark_is_numbered source thing ≡ true) (thing-there source)
    (λ k d less. ap (is_of (at_of (slice_index_or source.sites k d))) (site-at source.sites (tokens-rise source.sites is.tied.in_order own) k d less) ∙ of-itself (slice_index_or source.sites k d)))
