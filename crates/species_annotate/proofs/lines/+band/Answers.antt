use Rattle.std.proofs.Common.{◌++◌, ◌∷◌, []}
use Rattle.species_annotate.proofs.NameLemmas.{adds_none, adds_same, for_names, block_names, assign_names, add_names, declare_names, set_names, if_names}
use Rattle.species_nests.specs.Nests.{nest_in}
use Rattle.species_annotate.specs.Annotated.{band_names, iterators_of}
use Rattle.species_annotate.proofs.lines.+band.Goals as goal

pub enter_only-returns-in_ok-enter_band-in-For : goal.enter_only-returns-in_ok-enter_band-in-For
enter_only-returns-in_ok-enter_band-in-For t c at =
    let x = c.args.statement.now in
    let depth = c.args.depth in
    adds_same c.args.names.now c.enter_band.new.names (band_names depth c.in-For.head (at ++ 0 ∷ [])) (iterators_of (nest_in depth (x ∷ []) at).loops) (for_names depth x c.in-For.head at c.in-For.is)
    (c.in_ok-enter_band-in-For.ensures (at ++ 0 ∷ []))

pub enter_only-returns-in_ok-enter_body-in-Block : goal.enter_only-returns-in_ok-enter_body-in-Block
enter_only-returns-in_ok-enter_body-in-Block t c at =
    let x = c.args.statement.now in
    let depth = c.args.depth in
    let body = c.as_slice.result.now in
    adds_same c.args.names.now c.enter_body.new.names (iterators_of (nest_in depth body (at ++ 0 ∷ [])).loops) (iterators_of (nest_in depth (x ∷ []) at).loops)
    (block_names depth x c.in-Block.body body at c.in-Block.is c.as_slice.ensures) (c.in_ok-enter_body-in-Block.ensures (at ++ 0 ∷ []))

pub enter_only-returns-in-Assign : goal.enter_only-returns-in-Assign
enter_only-returns-in-Assign t c at =
    let x = c.args.statement.now in
    let i = c.in-Assign in
    adds_none c.args.names.now (iterators_of (nest_in c.args.depth (x ∷ []) at).loops) (assign_names c.args.depth x i.place i.array i.subs i.value at i.is)

pub enter_only-returns-in-AddTo : goal.enter_only-returns-in-AddTo
enter_only-returns-in-AddTo t c at =
    let x = c.args.statement.now in
    let i = c.in-AddTo in
    adds_none c.args.names.now (iterators_of (nest_in c.args.depth (x ∷ []) at).loops) (add_names c.args.depth x i.place i.array i.subs i.value i.atomic at i.is)

pub enter_only-returns-in-Declare : goal.enter_only-returns-in-Declare
enter_only-returns-in-Declare t c at =
    let x = c.args.statement.now in
    let i = c.in-Declare in
    adds_none c.args.names.now (iterators_of (nest_in c.args.depth (x ∷ []) at).loops) (declare_names c.args.depth x i.place i.local i.init at i.is)

pub enter_only-returns-in-SetLocal : goal.enter_only-returns-in-SetLocal
enter_only-returns-in-SetLocal t c at =
    let x = c.args.statement.now in
    let i = c.in-SetLocal in
    adds_none c.args.names.now (iterators_of (nest_in c.args.depth (x ∷ []) at).loops) (set_names c.args.depth x i.place i.local i.value at i.is)

pub enter_only-returns-in-If : goal.enter_only-returns-in-If
enter_only-returns-in-If t c at =
    let x = c.args.statement.now in
    let i = c.in-If in
    adds_none c.args.names.now (iterators_of (nest_in c.args.depth (x ∷ []) at).loops) (if_names c.args.depth x i.place i.test i.body i.otherwise at i.is)
