-- `shape::degree_fits` meets its contract. Assumes nothing.
use Rattle.shape.proofs.HeaderLaws.{degree_low, degree_rest}
use Rattle.shape.proofs.degree_fits.Goals as goal

pub returns-then-d-ge-LEAST_DEGREE : goal.returns-then-d-ge-LEAST_DEGREE
returns-then-d-ge-LEAST_DEGREE c = degree_rest _ c.if-d-ge-LEAST_DEGREE.true

pub returns-else-d-ge-LEAST_DEGREE : goal.returns-else-d-ge-LEAST_DEGREE
returns-else-d-ge-LEAST_DEGREE c = degree_low _ c.if-d-ge-LEAST_DEGREE.false
