-- What a replayer holds.
use Rattle.std.specs.Prelude.{◌≡◌, None}
use Rattle.circuit.specs.Circuits.{Blank}
use Rattle.trace.specs.Recordings.{held_trace}
use Rattle.replay.specs.declared.replayer.Replayer.{Replayer}

-- nothing is read yet
pub record Idle (r : Replayer) : Type 0 where
  pub circuit : Blank r.recording.circuit
  pub trace : held_trace r.recording ≡ None
