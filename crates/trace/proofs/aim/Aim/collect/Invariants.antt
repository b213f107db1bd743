use Rattle.std.proofs.Common.{◌≡◌, ◌+◌, ◌<◌, ◌≤◌, ◌++◌, map, length}
use Rattle.std.specs.List.{AllByRecursion as All}
use Rattle.circuit.specs.Circuits.{nets_of}
use Rattle.trace.specs.Coming.{left}
use Rattle.trace.specs.Dashes.{place_of, grid_at}
use Rattle.trace.specs.Layout.{entries}
use Rattle.trace.proofs.aim.Aim.collect.Given as goal

abbrev pub invariant-loop-entry : goal.invariant-loop-entry
invariant-loop-entry l =
    record {
      is : l.values ++ map (grid_at (length (nets_of l.self.circuit.now)) l.cells) (left l.entry-iterator) ≡ map (grid_at (length (nets_of l.self.circuit.now)) l.cells) (entries (nets_of l.self.circuit.now) l.self.goal.last.0);
      few : length l.values + length (left l.entry-iterator) ≤ 16640;
      within : All (λ e. place_of (length (nets_of l.self.circuit.now)) e < length l.cells) (left l.entry-iterator);
    }
