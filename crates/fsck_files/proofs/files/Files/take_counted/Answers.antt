use Rattle.std.proofs.Common.{rules}
use Rattle.fsck_files.proofs.CountLemmas.{compared_ok, compared_err}
use Rattle.fsck_files.proofs.files.Files.take_counted.Goals as goal

pub returns-clause-ok : goal.returns-clause-ok
returns-clause-ok c =
    compared_ok c.args.self.now c.args.block c.args.repl c.args.listed c.args.live c.count_maybe_live-places.result c.has-is_corrupt.result (search rules) (search rules) (search rules)
    c.take_places.new.self c.take_places.result c.take_places.ensures.ok

pub returns-clause-refused : goal.returns-clause-refused
returns-clause-refused c =
    compared_err c.args.self.now c.args.block c.args.repl c.args.listed c.args.live c.count_maybe_live-places.result c.has-is_corrupt.result (search rules) (search rules) (search rules)
    c.take_places.result c.take_places.ensures.refused
