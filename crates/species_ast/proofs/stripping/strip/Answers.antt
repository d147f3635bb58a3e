use Rattle.species_ast.proofs.StripKeeps.{strip-IsWellMade, strip-HasReadSize}
use Rattle.species_ast.proofs.StripLaws.{strip_of-IsUnmarked, strip_of-HasNoLine}
use Rattle.species_ast.proofs.stripping.strip.Goals as goal

pub returns-clause-unmarked : goal.returns-clause-unmarked
returns-clause-unmarked c =
    rw (c.in_ok-body.ensures, c.as_slice-3.ensures) (strip_of-IsUnmarked c.args.keep_lines c.args.unit.now)

pub returns-clause-without_lines : goal.returns-clause-without_lines
returns-clause-without_lines c plain =
    rw (c.in_ok-body.ensures, c.as_slice-3.ensures, plain) (strip_of-HasNoLine c.args.unit.now)

pub returns-clause-well_made : goal.returns-clause-well_made
returns-clause-well_made c made =
    rw (c.in_ok-includes.ensures, c.in_ok-arrays.ensures, c.in_ok-locals.ensures, c.in_ok-function.ensures, c.in_ok-body.ensures, c.as_slice.ensures, c.as_slice-2.ensures, c.as_slice-3.ensures) (strip-IsWellMade c.args.keep_lines c.args.unit.now made)

pub returns-clause-size : goal.returns-clause-size
returns-clause-size c small = rw (c.in_ok-body.ensures, c.as_slice-3.ensures) (strip-HasReadSize c.args.keep_lines c.args.unit.now small)
