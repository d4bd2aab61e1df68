use Rattle.program_files.proofs.class_paths.+unlisted_below.Given as goal

abbrev pub decreases-unlisted_below : goal.decreases-unlisted_below
decreases-unlisted_below g l = l.depth
