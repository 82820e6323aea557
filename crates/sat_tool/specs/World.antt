-- What is seen of the outside at a moment.
use Rattle.std.specs.Prelude.{ℕ, List, Option}
use Rattle.store_io.specs.Outside.{Files}

-- the files, where the store tells them, and how often it failed
pub record StoreView : Type 0 where
  pub files : Option Files
  pub faults : ℕ

-- what was written, where the sink tells it, and how often it failed
pub record SinkView : Type 0 where
  pub written : Option (List ℕ)
  pub faults : ℕ

pub record World : Type 0 where
  pub store : StoreView
  pub sink : SinkView

abbrev pub store_view : Option Files → ℕ → StoreView
store_view files faults = record { files = files; faults = faults }

abbrev pub sink_view : Option (List ℕ) → ℕ → SinkView
sink_view written faults = record { written = written; faults = faults }

abbrev pub world : Option Files → ℕ → Option (List ℕ) → ℕ → World
world files store_faults written sink_faults =
    record { store = store_view files store_faults; sink = sink_view written sink_faults }
