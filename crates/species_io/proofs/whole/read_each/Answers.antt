-- The goals of `read_each` that need an answer.
use Rattle.std.proofs.Common.{rules, ◌≡◌, ◌≤◌, ◌<◌, ◌+◌, ◌-◌, ◌++◌, ℕ, List, length, length-append, arith}
use Rattle.species_io.proofs.ToldLemmas.{gave_more, means_more, handed_part}
use Rattle.species_io.proofs.whole.read_each.Goals as goal

pub returns-then-piece-most-clause-budget : goal.returns-then-piece-most-clause-budget
returns-then-piece-most-clause-budget g c =
    let f = c.loop-piece.invariant.0 in
    let piece = c.in-Ok.piece.now in
    let upto : length piece ≤ c.min-size.result = search rules in
    let room : c.loop-piece.handed + c.min-size.result ≤ c.args.limit + 1 = search rules in
    (f.0 ++ piece, omega (arith, upto, room, f.1, length-append f.0 piece), gave_more _ _ _ f.0 piece f.2 c.in-Ok.ensures.took)

pub returns-then-piece-most-clause-stopped : goal.returns-then-piece-most-clause-stopped
returns-then-piece-most-clause-stopped g c =
    λ _.
    let f = c.loop-piece.invariant.0 in
    let piece = c.in-Ok.piece.now in
    let upto : length piece ≤ c.min-size.result = search rules in
    let room : c.loop-piece.handed + c.min-size.result ≤ c.args.limit + 1 = search rules in (
      f.0 ++ piece,
      omega (arith, upto, room, f.1, c.if-piece-most.true, c.loop-piece.invariant.1, length-append f.0 piece),
      gave_more _ _ _ f.0 piece f.2 c.in-Ok.ensures.took,
    )

pub returns-in-Err-take-clause-part : goal.returns-in-Err-take-clause-part
returns-in-Err-take-clause-part g c =
    λ bytes means.
    let f = c.loop-piece.invariant.0 in
    let piece = c.in-Ok.piece.now in
    let fits : length f.0 + length piece ≤ c.args.limit = omega (arith, f.1, c.if-piece-most.false, c.loop-piece.invariant.1) in
    let took : g.P.Piecewise.room c.loop-piece.to + length f.0 ≡ g.P.Piecewise.room c.args.to.now = omega (arith, f.1, c.loop-piece.invariant.3) in
    handed_part (g.P.Piecewise.Means c.take.new.self) c.args.limit (g.P.Piecewise.room c.args.to.now) (g.P.Piecewise.room c.loop-piece.to) (g.P.Piecewise.room c.take.new.self)
    bytes f.0 piece (g.S.Source.left c.args.src.now) (g.S.Source.left c.loop-piece.src) (g.S.Source.left c.read_piece.new.src) f.2 c.in-Ok.ensures.took fits took
    (c.in-Err-take.ensures.part (bytes ++ f.0) (f.3 bytes means))

pub returns-in-Err-take-clause-budget : goal.returns-in-Err-take-clause-budget
returns-in-Err-take-clause-budget g c =
    let f = c.loop-piece.invariant.0 in
    let piece = c.in-Ok.piece.now in
    let upto : length piece ≤ c.min-size.result = search rules in
    let room : c.loop-piece.handed + c.min-size.result ≤ c.args.limit + 1 = search rules in
    (f.0 ++ piece, omega (arith, upto, room, f.1, length-append f.0 piece), gave_more _ _ _ f.0 piece f.2 c.in-Ok.ensures.took)

pub loop-piece-preserved : goal.loop-piece-preserved
loop-piece-preserved g c =
    let f = c.loop-piece.invariant.0 in
    let piece = c.in-Ok.piece.now in
    let still : length piece ≤ g.P.Piecewise.room c.loop-piece.to = omega (arith, c.if-piece-most.false, c.loop-piece.invariant.1, c.loop-piece.invariant.3, c.requires) in (
      (
        f.0 ++ piece,
        omega (arith, f.1, length-append f.0 piece),
        gave_more _ _ _ f.0 piece f.2 c.in-Ok.ensures.took,
        λ bytes means. means_more (g.P.Piecewise.Means c.take.new.self) bytes f.0 piece (c.in-Ok-take.ensures.appended (bytes ++ f.0) (f.3 bytes means)),
      ),
      omega (arith, c.if-piece-most.false, c.loop-piece.invariant.1),
      search rules,
      omega (arith, still, c.in-Ok-take.ensures.room, c.loop-piece.invariant.3),
    )
