use Rattle.std.proofs.Common.{rules, not, length}
use Rattle.std.specs.Prelude.{◌==◌}
use Rattle.std.proofs.lemmas.Map.Made.{filter_same_pairs}
use Rattle.bm_pending.proofs.Blocks.{shed-targets, shed-kept, shed-freed}
use Rattle.bm_pending.proofs.by_block.release_unused.Goals as goal

pub returns : goal.returns
returns c =
    let left = filter_same_pairs _ (λ e. not (length e.1.items == 0)) _ (λ k v b w f' t. search rules) _ _ c.retain.ensures.filtered in
    record {
      targets = shed-targets c.args.blocks.now.entries c.retain.new.self.entries c.iter.ensures.unique left;
      kept = shed-kept c.args.blocks.now.entries c.retain.new.self.entries c.iter.ensures.unique left;
      freed = shed-freed c.args.blocks.now.entries c.retain.new.self.entries c.iter.ensures.unique left;
    }
