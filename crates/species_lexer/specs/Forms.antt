-- Directives as the definitions of the text have them.
use Rattle.species_ast.specs.Text.Directives as text
use Rattle.species_lexer.specs.declared.form.Form.{Form}
use Rattle.species_lexer.specs.declared.form.Form.TheVariants as form
use Rattle.species_lexer.specs.Seen.{seen_part}

abbrev pub seen_form : Form → text.Form
seen_form form.Skipped = text.Skipped
seen_form (form.Read bytes kind) = text.Read bytes.now kind
seen_form (form.Macro name run) = text.Macro name.now (seen_part run)
seen_form (form.Wrong fault) = text.Wrong fault.refusal
