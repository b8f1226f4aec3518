use Rattle.cluster_what_if.proofs.WholeAnswers.{printed}
use Rattle.cluster_what_if.proofs.answer.Goals as goal

pub returns-in-Ok : goal.returns-in-Ok
returns-in-Ok g c done lines =
    printed c.args.asked.now.question c.args.asked.now.pace c.args.asked.now.most c.args.loaded.now c.find-found.new.loaded (g.W.Write.contents c.args.writer.now)
    (g.W.Write.contents c.write_found-status.new.writer) c.in-Ok.found c.in-Ok.ensures.answers c.in-Ok.ensures.names c.in-Ok.ensures.files (c.write_found-status.ensures done lines)
