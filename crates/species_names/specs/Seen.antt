-- What the code's meanings stand for.
use Rattle.species_names.specs.declared.meaning.Local as code_local
use Rattle.species_names.specs.declared.meaning.Meaning as code
use Rattle.species_names.specs.declared.meaning.Meaning.TheVariants as means
use Rattle.species_ast.specs.Scope.Meanings.{Local, Meaning}

abbrev pub local_seen : code_local.Local → Local
local_seen x = record { serial = x.serial; kind = x.kind; initialised = x.initialised }

abbrev pub seen : code.Meaning → Meaning
seen (means.Array a n) = Meaning.Array a n
seen (means.Variable x) = Meaning.Variable (local_seen x)
seen (means.Iterator level) = Meaning.Iterator level
seen means.Function = Meaning.Function
