-- How a run of the code was over, as the definitions say it and as answers tell it.
use Rattle.std.specs.Prelude.{◌≡◌}
use Rattle.rv_encode.specs.State as machine
use Rattle.rv_emulator.specs.declared.state.Ending.{Ending}
use Rattle.rv_emulator.specs.declared.state.Ending.TheVariants as endings
use Rattle.rv_emulator.specs.declared.pause.Pause.{Pause}
use Rattle.rv_emulator.specs.declared.pause.Pause.TheVariants.{Ended, Stopped, Fault}

abbrev pub ending_of : Ending → machine.Ending
ending_of (endings.Ended overflow count) = machine.Ended overflow count
ending_of (endings.Stopped site) = machine.Stopped site
ending_of (endings.Faulted pc kind) = machine.Faulted pc kind

abbrev pub pause_of : Ending → Pause
pause_of (endings.Ended overflow count) = Ended overflow count
pause_of (endings.Stopped site) = Stopped site
pause_of (endings.Faulted pc kind) = Fault pc kind

abbrev pub IsPauseOf : Ending → Pause → Type 0
IsPauseOf ending pause = pause ≡ pause_of ending
