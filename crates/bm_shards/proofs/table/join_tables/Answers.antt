use Rattle.std.proofs.Common.{◌≡◌, ◌-◌, ◌∷◌, ◌++◌, [], sym, ap, ◌∙◌, take, vec_len, arith, append-nil}
use Rattle.std.specs.List.{flat_map}
use Rattle.bm_shards.proofs.table.join_tables.Goals as goal

pub returns-in-Some : goal.returns-in-Some
returns-in-Some c =
    let none : vec_len c.args.tables - 1 ≡ 0 = omega (arith, c.len.ensures, c.if-len-eq1.true) in
    let left : c.pop.new.self.items ≡ [] = c.in-Some.ensures.rest ∙ ap (λ n. take n c.args.tables.items) none in
    c.into_vec.ensures ∙ sym (append-nil c.in-Some.only) ∙ ap (flat_map (λ t. t)) (sym (c.in-Some.ensures.items ∙ ap (λ xs. xs ++ c.in-Some.only ∷ []) left))
