use Rattle.callers.proofs.concurrent_reader.apply_with_reader.Given as goal

abbrev pub ghosts-in_two_threads : goal.ghosts-in_two_threads
ghosts-in_two_threads g a = record { home = a.publisher.now.home; before = a.manager.now.calls }
