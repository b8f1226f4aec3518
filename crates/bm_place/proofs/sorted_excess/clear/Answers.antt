use Rattle.std.proofs.Common.{◌≡◌, false, [], rules, ◌∙◌}
use Rattle.std.proofs.lemmas.Fn.{filter_same}
use Rattle.bm_base.specs.Maps.Map.{Map, by_number, empty, entries}
use Rattle.bm_base.specs.Maps.MapCode.{same_entries_map}
use Rattle.bm_base.proofs.Slices.{none_pass}
use Rattle.bm_place.proofs.sorted_excess.clear.Goals as goal

is_empty : {X : Type 0} (m : Map by_number X) → entries m ≡ [] → m ≡ empty
unfolding entries empty
is_empty m none = same_entries_map m empty none

pub returns : goal.returns
returns c = is_empty c.retain.new.self.map (filter_same _ (λ _. false) _ (λ x b f' k. search rules) _ _ c.retain.ensures.filtered ∙ none_pass (entries c.args.counts.now.map))
