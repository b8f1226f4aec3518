use Rattle.cluster_report.proofs.CatalogueLemmas.{lists_empty}
use Rattle.cluster_report.proofs.catalogue.Catalogue.new.Goals as goal

pub returns : goal.returns
returns c = lists_empty (record { blocks = c.with_hasher.result }) c.with_hasher.ensures.empty
