-- From a tree of the grammar to a unit: the scopes of names, what is refused, and what each construct becomes.
--     Forms           affine forms of expressions
--     Meanings        what names mean where they stand
--     Expressions     what an expression becomes, and the names in it
--     Hulls           the ranges of loops, and the limit on their ends
--     Magnitudes      how large the parts of a bound may get
--     Limits          the other limits of programs
--     Nests           perfectly nested loops, and the marks on them
--     Loops           the loops of a unit, each where it stands
--     References      the references to arrays in a nest, in order of evaluation
--     Statements      what a statement becomes, and what is noted on the way
--     Programs        what a whole program becomes
--     Refusals        the refusals, and which of several is reported
--     Conditions      the conditions under which a program is refused
--     Written         what holds of each tree that is read
--     WellMade        the units that passes take and give
--     Law             the reported refusal is the first
-- Not here: when two units differ in places alone (with the printed text); that a lawful program becomes a well made unit (with
-- the code that resolves names); the refusals of the text and the grammar, which come before these, and those of species lines
-- and of data, which come after.
pub mod Forms
pub mod Meanings
pub mod Expressions
pub mod Hulls
pub mod Magnitudes
pub mod Limits
pub mod Nests
pub mod Loops
pub mod References
pub mod Statements
pub mod Programs
pub mod Refusals
pub mod Conditions
pub mod Written
pub mod WellMade
pub mod Law
