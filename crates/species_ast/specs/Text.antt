-- The text of a program: how its bytes are cut into tokens, blanks and comments.
--     Characters      classes of bytes, words, lines
--     Comments        comments and line splices
--     Numbers         number runs, and the values of literals
--     Words           keywords and punctuators
--     Parts           the words of a directive
--     Directives      what stands on a line that begins with `#`
--     Pragmas         the pragmas that are read
--     Pieces          what stands at a place: a blank, a comment, a token or a refusal
--     Stream          the tokens of a whole text, or the first refusal
--     Load            the measure of a token list that bounds the depth of reading
--     Law             each text is cut in one way
pub mod Characters
pub mod Comments
pub mod Numbers
pub mod Words
pub mod Parts
pub mod Pragmas
pub mod Directives
pub mod Pieces
pub mod Stream
pub mod Load
pub mod Law
