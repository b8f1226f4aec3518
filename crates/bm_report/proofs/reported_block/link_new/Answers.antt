use Rattle.bm_report.proofs.Siblings.{found_sibling, no_sibling}
use Rattle.bm_report.proofs.Steps.{linked-frame, linked-behind, alone-replicas, alone-length, moved-replicas, moved-length, moved-frame, moved-behind}
use Rattle.bm_report.proofs.reported_block.link_new.Goals as goal

pub returns-in-Some-clause-replicas : goal.returns-in-Some-clause-replicas
returns-in-Some-clause-replicas c =
    let found = found_sibling c.args.topology.now.cluster c.args.arena.now c.args.named.now.slot c.args.storage c.in-Some.sibling c.sibling_of-sibling.result c.in-Some.is c.sibling_of-sibling.ensures.found in
    moved-replicas c.args.topology.now.cluster c.args.arena.now c.link_front.new.self c.args.storage c.args.named.now.id c.args.named.now.slot c.args.marks c.show_invariant.ensures c.requires.here c.requires.absent
    c.link_front.ensures.others c.link_front.ensures.marks c.link_front.ensures.list c.requires.once
    c.unlink.new.self c.in-Some.sibling c.link_front.ensures.lawful found.0 found.1 c.unlink.ensures.others c.unlink.ensures.marks

pub returns-in-Some-clause-behind : goal.returns-in-Some-clause-behind
returns-in-Some-clause-behind c =
    let found = found_sibling c.args.topology.now.cluster c.args.arena.now c.args.named.now.slot c.args.storage c.in-Some.sibling c.sibling_of-sibling.result c.in-Some.is c.sibling_of-sibling.ensures.found in
    moved-behind c.args.topology.now.cluster c.args.arena.now c.link_front.new.self c.args.storage c.args.named.now.id c.args.named.now.slot c.args.marks c.show_invariant.ensures c.requires.here c.requires.absent
    c.link_front.ensures.others c.link_front.ensures.marks c.link_front.ensures.list c.requires.once
    c.unlink.new.self c.in-Some.sibling c.link_front.ensures.lawful found.0 found.1 c.unlink.ensures.others c.unlink.ensures.marks

pub returns-in-Some-clause-frame : goal.returns-in-Some-clause-frame
returns-in-Some-clause-frame c =
    let found = found_sibling c.args.topology.now.cluster c.args.arena.now c.args.named.now.slot c.args.storage c.in-Some.sibling c.sibling_of-sibling.result c.in-Some.is c.sibling_of-sibling.ensures.found in
    moved-frame c.args.topology.now.cluster c.args.arena.now c.link_front.new.self c.args.storage c.args.named.now.id c.args.named.now.slot c.args.marks c.show_invariant.ensures c.requires.here c.requires.absent
    c.link_front.ensures.others c.link_front.ensures.marks c.link_front.ensures.list c.requires.once
    c.unlink.new.self c.in-Some.sibling c.link_front.ensures.lawful found.0 found.1 c.unlink.ensures.others c.unlink.ensures.marks

pub returns-in-Some-clause-removed : goal.returns-in-Some-clause-removed
returns-in-Some-clause-removed c =
    let found = found_sibling c.args.topology.now.cluster c.args.arena.now c.args.named.now.slot c.args.storage c.in-Some.sibling c.sibling_of-sibling.result c.in-Some.is c.sibling_of-sibling.ensures.found in
    moved-length c.args.topology.now.cluster c.args.arena.now c.link_front.new.self c.args.storage c.args.named.now.id c.args.named.now.slot c.args.marks c.show_invariant.ensures c.requires.here c.requires.absent
    c.link_front.ensures.others c.link_front.ensures.marks c.link_front.ensures.list c.requires.once
    c.unlink.new.self c.in-Some.sibling c.link_front.ensures.lawful found.0 found.1 c.unlink.ensures.others c.unlink.ensures.marks

pub returns-in-None-clause-replicas : goal.returns-in-None-clause-replicas
returns-in-None-clause-replicas c =
    alone-replicas c.args.topology.now.cluster c.args.arena.now c.link_front.new.self c.args.storage c.args.named.now.id c.args.named.now.slot c.args.marks c.show_invariant.ensures c.requires.here c.requires.absent
    c.link_front.ensures.others c.link_front.ensures.marks c.link_front.ensures.list c.requires.once
    (no_sibling c.args.topology.now.cluster c.args.arena.now c.args.named.now.slot c.args.storage c.sibling_of-sibling.result c.in-None.is c.sibling_of-sibling.ensures.none)

pub returns-in-None-clause-behind : goal.returns-in-None-clause-behind
returns-in-None-clause-behind c =
    linked-behind c.args.topology.now.cluster c.args.arena.now c.link_front.new.self c.args.storage c.args.named.now.id c.args.named.now.slot c.args.marks c.show_invariant.ensures c.requires.here c.requires.absent
    c.link_front.ensures.others c.link_front.ensures.marks c.link_front.ensures.list c.requires.once

pub returns-in-None-clause-frame : goal.returns-in-None-clause-frame
returns-in-None-clause-frame c =
    linked-frame c.args.topology.now.cluster c.args.arena.now c.link_front.new.self c.args.storage c.args.named.now.id c.args.named.now.slot c.args.marks c.show_invariant.ensures c.requires.here c.requires.absent
    c.link_front.ensures.others c.link_front.ensures.marks c.link_front.ensures.list c.requires.once

pub returns-in-None-clause-removed : goal.returns-in-None-clause-removed
returns-in-None-clause-removed c =
    alone-length c.args.topology.now.cluster c.args.arena.now c.link_front.new.self c.args.storage c.args.named.now.id c.args.named.now.slot c.args.marks c.show_invariant.ensures c.requires.here c.requires.absent
    c.link_front.ensures.others c.link_front.ensures.marks c.link_front.ensures.list c.requires.once
