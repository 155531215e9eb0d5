-- `terminal::serve` meets its contract. Assumes nothing.
use Rattle.std.proofs.Common.{◌≡◌, ◌<◌, ◌≤◌, length, arith, rules}
use Rattle.std.proofs.lemmas.Grind.{common_steps}
use Rattle.interpreter.proofs.Steps.{steps_forward}
use Rattle.terminal.proofs.Turns.{going_on, going_over, passed_of}
use Rattle.terminal.proofs.serve.Goals as goal

pub slice_bounds-rest-count : goal.slice_bounds-rest-count
slice_bounds-rest-count g c =
    let some : 0 < length c.loop-rest.rest.now = let h = c.is_empty.ensures in grind (arith, common_steps) in
    (steps_forward c.step-taken.ensures.steps some).1

pub slice_bounds-rest-start : goal.slice_bounds-rest-start
slice_bounds-rest-start g c =
    let some : 0 < length c.loop-rest.rest.now = let h = c.is_empty.ensures in grind (arith, common_steps) in
    let within : c.step-taken.result ≤ length c.loop-rest.rest.now = (steps_forward c.step-taken.ensures.steps some).1 in search rules

pub loop-rest-smaller : goal.loop-rest-smaller
loop-rest-smaller g c =
    let some : 0 < length c.loop-rest.rest.now = let h = c.is_empty.ensures in grind (arith, common_steps) in
    let forward = steps_forward c.step-taken.ensures.steps some in grind (arith, common_steps)

pub loop-rest-preserved : goal.loop-rest-preserved
loop-rest-preserved g c = going_on c.loop-rest.invariant c.step-taken.ensures.steps (rw c.as_slice.ensures.all at c.in_ok-print.ensures)

pub returns-clause-passed : goal.returns-clause-passed
returns-clause-passed g c =
    let none : length c.loop-rest.rest.now ≡ 0 = let h = c.is_empty.ensures in grind (arith, common_steps) in
    passed_of (going_over _ none c.loop-rest.invariant)

pub returns-clause-printed : goal.returns-clause-printed
returns-clause-printed g c =
    let none : length c.loop-rest.rest.now ≡ 0 = let h = c.is_empty.ensures in grind (arith, common_steps) in
    going_over _ none c.loop-rest.invariant
