use Rattle.std.proofs.Common.{ap, sym}
use Rattle.bones_skeleton.specs.Skeletons.{template_text}
use Rattle.bones_skeleton.proofs.template_text.Goals as goal

pub returns-in-Element : goal.returns-in-Element
returns-in-Element c = sym (ap template_text c.in-Element.is)

pub returns-in-Neighbourhood : goal.returns-in-Neighbourhood
returns-in-Neighbourhood c = sym (ap template_text c.in-Neighbourhood.is)

pub returns-in-Chunk : goal.returns-in-Chunk
returns-in-Chunk c = sym (ap template_text c.in-Chunk.is)

pub returns-in-Full : goal.returns-in-Full
returns-in-Full c = sym (ap template_text c.in-Full.is)

pub returns-in-Shared : goal.returns-in-Shared
returns-in-Shared c = sym (ap template_text c.in-Shared.is)
