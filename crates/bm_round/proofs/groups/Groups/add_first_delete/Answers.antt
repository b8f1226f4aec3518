use Rattle.std.proofs.Common.{◌≤◌, ◌<◌, ◌++◌, ◌∷◌, [], length, set, get_or, ap, sym, ◌∙◌, arith}
use Rattle.std.proofs.lemmas.Result.{IfOk-weaker}
use Rattle.bm_base.specs.Words.{keys, has_storage}
use Rattle.bm_round.specs.RoundCommands.{first_commands, first_by_node}
use Rattle.bm_round.specs.NodeIndex.{index_where}
use Rattle.bm_round.proofs.AddedCommands.{unchanged, command_changed, place_below}
use Rattle.bm_round.proofs.FirstDeletes.{with_first, other_first, own_first, adds_below_most, keeps_at_most}
use Rattle.bm_round.proofs.groups.Groups.add_first_delete.Goals as goal

pub returns-in_default-clause-nodes : goal.returns-in_default-clause-nodes
returns-in_default-clause-nodes c ds is =
    let C = c.args.topology.now.cluster in
    let d = c.args.delete in
    let most = c.args.most in
    let none = ap (λ ns. index_where (λ n. has_storage C n d.storage) ns) (sym c.requires.ids) ∙ sym c.look_up.ensures.index ∙ c.in_default.is in
    ap (λ ks. ks.items) c.look_up.ensures.nodes ∙ is
    ∙ unchanged (first_commands most C ds) (first_commands most C (ds ++ d ∷ [])) (with_first most C ds d) (λ n. has_storage C n d.storage) (other_first most C ds d) (own_first most C ds d) (keys C.nodes) none

pub index_mut-commands-requires : goal.index_mut-commands-requires
index_mut-commands-requires c =
    let C = c.args.topology.now.cluster in
    let below = place_below (λ n. has_storage C n c.args.delete.storage) c.args.self.now.ids.items c.in-Some.index (sym c.look_up.ensures.index ∙ c.in-Some.is) in
    let count = c.requires.count in
    let same = ap (λ ks. length ks.items) c.look_up.ensures.nodes in
    omega (arith, below, count, same, c.look_up.new.self.nodes.ok.0)

pub returns-then-as_slice-most-clause-nodes : goal.returns-then-as_slice-most-clause-nodes
returns-then-as_slice-most-clause-nodes c ds is =
    let C = c.args.topology.now.cluster in
    let d = c.args.delete in
    let most = c.args.most in
    let x = c.index_mut-commands.result.now in
    let still = ap (λ ks. ks.items) c.look_up.ensures.nodes ∙ is in
    let i = c.in-Some.index in
    let at = ap (λ ns. index_where (λ n. has_storage C n d.storage) ns) (sym c.requires.ids) ∙ sym c.look_up.ensures.index ∙ c.in-Some.is in
    let read = c.index_mut-commands.ensures.value ∙ ap (λ ks. get_or ks i x) still in
    let full : most ≤ length x.deletes = omega (arith, c.if-as_slice-most.true, ap length c.as_slice.ensures) in
    ap (λ ks. set ks i x) still
    ∙ ap (λ k. set (first_by_node most C ds) i k) (sym (keeps_at_most most C ds d x full))
    ∙ command_changed C d.storage (first_commands most C ds) (first_commands most C (ds ++ d ∷ [])) (with_first most C ds d) (other_first most C ds d) (own_first most C ds d) i x at read

pub returns-clause-nodes : goal.returns-clause-nodes
returns-clause-nodes c ds is =
    let C = c.args.topology.now.cluster in
    let d = c.args.delete in
    let most = c.args.most in
    let x = c.index_mut-commands.result.now in
    let still = ap (λ ks. ks.items) c.look_up.ensures.nodes ∙ is in
    let i = c.in-Some.index in
    let at = ap (λ ns. index_where (λ n. has_storage C n d.storage) ns) (sym c.requires.ids) ∙ sym c.look_up.ensures.index ∙ c.in-Some.is in
    let read = c.index_mut-commands.ensures.value ∙ ap (λ ks. get_or ks i x) still in
    let less : length x.deletes < most = omega (arith, c.if-as_slice-most.false, ap length c.as_slice.ensures) in
    let whole = ap (λ ks. set ks i (record x { deletes = x.deletes ++ d ∷ [] })) still
    ∙ ap (λ k. set (first_by_node most C ds) i k) (sym (adds_below_most most C ds d x less))
    ∙ command_changed C d.storage (first_commands most C ds) (first_commands most C (ds ++ d ∷ [])) (with_first most C ds d) (other_first most C ds d) (own_first most C ds d) i x at read in
    IfOk-weaker c.push.result _ _ (λ _ e. ap (λ us. set c.look_up.new.self.nodes.items i (record x { deletes = us })) e ∙ whole) c.push.ensures
