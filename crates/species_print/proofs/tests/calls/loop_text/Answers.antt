use Rattle.species_print.proofs.tests.calls.loop_text.Goals as goal

pub print_loop-requires : goal.print_loop-requires
print_loop-requires c = c.idle_loop-head.ensures c.args.made.now
