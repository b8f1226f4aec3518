use Rattle.std.proofs.Common.{◌≡◌, true, drop, sym, ap, ◌∙◌}
use Rattle.std.specs.List.{list_any}
use Rattle.cluster_input.proofs.HeadLemmas.{any_of, any_dropped, head_found, head_more}
use Rattle.cluster_input.proofs.kind.read_head.Goals as goal

pub returns-then-has_word : goal.returns-then-has_word
returns-then-has_word g c =
    let found : list_any any_of (drop c.len-start.result c.read_until.new.buf.items) ≡ true = ap (λ xs. list_any any_of (drop c.len-start.result xs)) (sym c.as_slice.ensures.value) ∙ sym c.has_word.ensures ∙ c.if-has_word.true in
    head_found (g.R.Read.remaining c.args.reader.now) (g.R.Read.remaining c.read_until.new.self) c.read_until.new.buf.items
    (head_more _ _ _ c.loop.head.items c.read_until.new.buf.items c.loop.invariant c.in-Ok.ensures.none_lost c.in-Ok.ensures.appends)
    (any_dropped c.len-start.result c.read_until.new.buf.items found)

pub loop-preserved : goal.loop-preserved
loop-preserved g c =
    head_more _ _ _ c.loop.head.items c.read_until.new.buf.items c.loop.invariant c.in-Ok.ensures.none_lost c.in-Ok.ensures.appends
