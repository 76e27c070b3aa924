-- A record is appended, or a write fails on the way: what the disk holds at each moment, before its gate is written and after.
use Rattle.std.proofs.Common.{◌≡◌, ℕ, ◌+◌, ◌++◌, [], ◌∷◌, false, length, sym, ap, subst, arith}
use Rattle.host_port.specs.Host.{disk_now}
use Rattle.commit_journal.specs.Journal.{JournalState, IsJournalAtRest}
use Rattle.page_pool.specs.Paged.{PagedState, content}
use Rattle.commit_journal.proofs.Append.{fits_held, bytes_of, one_any_moment, one_front, one_gate_last, two_any_moment, two_front, two_gate_last, added}
use Rattle.commit_journal.proofs.Ends.{length-after_gate}
use Rattle.commit_journal.proofs.journal.Journal.append.Goals as goal

abbrev end_of : JournalState → ℕ
end_of s = s.end

abbrev size_of : PagedState → ℕ
size_of p = p.size

pub returns-in_err-done-clause-any_moment : goal.returns-in_err-done-clause-any_moment
returns-in_err-done-clause-any_moment g c = λ form held.
    let old = g.H.Host.told c.args.host.now in
    let behind = g.H.Host.told c.write_pages-done.new.host in
    let spelled = bytes_of c.args.pool.now c.args.prepared c.prepared.inside.paged form c.prepared.view_is held in
    let fits = fits_held c.args.pool.now c.args.prepared c.args.self.now.end c.requires.ready form held in
    one_any_moment old behind c.args.self.now.end c.self.inside.end form (content c.args.pool.now c.prepared.inside.paged) (ap end_of c.self.view_is)
    spelled fits c.write_pages-done.ensures.during

pub returns-in_err-done-clause-prefix : goal.returns-in_err-done-clause-prefix
returns-in_err-done-clause-prefix g c =
    let old = g.H.Host.told c.args.host.now in
    let behind = g.H.Host.told c.write_pages-done.new.host in
    let spelled = bytes_of c.args.pool.now c.args.prepared c.prepared.inside.paged c.requires.ready.0 c.prepared.view_is c.requires.ready.1 in
    let fits = fits_held c.args.pool.now c.args.prepared c.args.self.now.end c.requires.ready c.requires.ready.0 c.requires.ready.1 in
    one_front old behind c.args.self.now.end c.self.inside.end c.requires.ready.0 (content c.args.pool.now c.prepared.inside.paged)
    (ap end_of c.self.view_is) spelled fits c.write_pages-done.ensures.during c.requires.at_rest

pub returns-in_err-done-clause-gate_last : goal.returns-in_err-done-clause-gate_last
returns-in_err-done-clause-gate_last g c = λ form held.
    let old = g.H.Host.told c.args.host.now in
    let behind = g.H.Host.told c.write_pages-done.new.host in
    let spelled = bytes_of c.args.pool.now c.args.prepared c.prepared.inside.paged form c.prepared.view_is held in
    let fits = fits_held c.args.pool.now c.args.prepared c.args.self.now.end c.requires.ready form held in
    one_gate_last old behind c.args.self.now.end c.self.inside.end form (content c.args.pool.now c.prepared.inside.paged) (ap end_of c.self.view_is)
    spelled fits c.write_pages-done.ensures.during c.requires.at_rest

pub returns-in_err-write_durably-clause-any_moment : goal.returns-in_err-write_durably-clause-any_moment
returns-in_err-write_durably-clause-any_moment g c = λ form held.
    let old = g.H.Host.told c.args.host.now in
    let behind = g.H.Host.told c.write_pages-done.new.host in
    let new = g.H.Host.told c.write_durably.new.host in
    let spelled = bytes_of c.args.pool.now c.args.prepared c.prepared.inside.paged form c.prepared.view_is held in
    let fits = fits_held c.args.pool.now c.args.prepared c.args.self.now.end c.requires.ready form held in
    two_any_moment old behind c.args.self.now.end c.self.inside.end form (content c.args.pool.now c.prepared.inside.paged) (ap end_of c.self.view_is)
    spelled fits c.write_pages-done.ensures.during new c.write_pages-done.ensures.course c.write_durably.ensures.course c.in_ok-done.ensures.done
    c.write_durably.ensures.during

pub returns-in_err-write_durably-clause-prefix : goal.returns-in_err-write_durably-clause-prefix
returns-in_err-write_durably-clause-prefix g c =
    let old = g.H.Host.told c.args.host.now in
    let behind = g.H.Host.told c.write_pages-done.new.host in
    let new = g.H.Host.told c.write_durably.new.host in
    let spelled = bytes_of c.args.pool.now c.args.prepared c.prepared.inside.paged c.requires.ready.0 c.prepared.view_is c.requires.ready.1 in
    let fits = fits_held c.args.pool.now c.args.prepared c.args.self.now.end c.requires.ready c.requires.ready.0 c.requires.ready.1 in
    two_front old behind c.args.self.now.end c.self.inside.end c.requires.ready.0 (content c.args.pool.now c.prepared.inside.paged)
    (ap end_of c.self.view_is) spelled fits c.write_pages-done.ensures.during new c.write_pages-done.ensures.course c.write_durably.ensures.course
    c.in_ok-done.ensures.done c.write_durably.ensures.during c.requires.at_rest

pub returns-in_err-write_durably-clause-gate_last : goal.returns-in_err-write_durably-clause-gate_last
returns-in_err-write_durably-clause-gate_last g c = λ form held.
    let old = g.H.Host.told c.args.host.now in
    let behind = g.H.Host.told c.write_pages-done.new.host in
    let new = g.H.Host.told c.write_durably.new.host in
    let spelled = bytes_of c.args.pool.now c.args.prepared c.prepared.inside.paged form c.prepared.view_is held in
    let fits = fits_held c.args.pool.now c.args.prepared c.args.self.now.end c.requires.ready form held in
    two_gate_last old behind c.args.self.now.end c.self.inside.end form (content c.args.pool.now c.prepared.inside.paged) (ap end_of c.self.view_is)
    spelled fits c.write_pages-done.ensures.during new c.write_pages-done.ensures.course c.write_durably.ensures.course c.in_ok-done.ensures.done
    c.write_durably.ensures.during c.requires.at_rest

pub returns-clause-any_moment : goal.returns-clause-any_moment
returns-clause-any_moment g c = λ form held.
    let old = g.H.Host.told c.args.host.now in
    let behind = g.H.Host.told c.write_pages-done.new.host in
    let new = g.H.Host.told c.write_durably.new.host in
    let spelled = bytes_of c.args.pool.now c.args.prepared c.prepared.inside.paged form c.prepared.view_is held in
    let fits = fits_held c.args.pool.now c.args.prepared c.args.self.now.end c.requires.ready form held in
    two_any_moment old behind c.args.self.now.end c.self.inside.end form (content c.args.pool.now c.prepared.inside.paged) (ap end_of c.self.view_is)
    spelled fits c.write_pages-done.ensures.during new c.write_pages-done.ensures.course c.write_durably.ensures.course c.in_ok-done.ensures.done
    c.write_durably.ensures.during

pub returns-clause-prefix : goal.returns-clause-prefix
returns-clause-prefix g c =
    let old = g.H.Host.told c.args.host.now in
    let behind = g.H.Host.told c.write_pages-done.new.host in
    let new = g.H.Host.told c.write_durably.new.host in
    let spelled = bytes_of c.args.pool.now c.args.prepared c.prepared.inside.paged c.requires.ready.0 c.prepared.view_is c.requires.ready.1 in
    let fits = fits_held c.args.pool.now c.args.prepared c.args.self.now.end c.requires.ready c.requires.ready.0 c.requires.ready.1 in
    two_front old behind c.args.self.now.end c.self.inside.end c.requires.ready.0 (content c.args.pool.now c.prepared.inside.paged)
    (ap end_of c.self.view_is) spelled fits c.write_pages-done.ensures.during new c.write_pages-done.ensures.course c.write_durably.ensures.course
    c.in_ok-done.ensures.done c.write_durably.ensures.during c.requires.at_rest

pub returns-clause-gate_last : goal.returns-clause-gate_last
returns-clause-gate_last g c = λ form held.
    let old = g.H.Host.told c.args.host.now in
    let behind = g.H.Host.told c.write_pages-done.new.host in
    let new = g.H.Host.told c.write_durably.new.host in
    let spelled = bytes_of c.args.pool.now c.args.prepared c.prepared.inside.paged form c.prepared.view_is held in
    let fits = fits_held c.args.pool.now c.args.prepared c.args.self.now.end c.requires.ready form held in
    two_gate_last old behind c.args.self.now.end c.self.inside.end form (content c.args.pool.now c.prepared.inside.paged) (ap end_of c.self.view_is)
    spelled fits c.write_pages-done.ensures.during new c.write_pages-done.ensures.course c.write_durably.ensures.course c.in_ok-done.ensures.done
    c.write_durably.ensures.during c.requires.at_rest

pub returns-clause-ok : goal.returns-clause-ok
returns-clause-ok g c = λ form held.
    let new_end : c.self.inside.end + c.len-length.result ≡ c.args.self.now.end + 5 + length form =
    omega (arith, ap end_of c.self.view_is, ap size_of c.prepared.view_is, length-after_gate form, c.len-length.ensures, held.size) in
    let made : ℕ → JournalState = λ n. record { end = n; broken = false } in
    ap made new_end

pub returns-clause-added : goal.returns-clause-added
returns-clause-added g c = λ told form held forms at_rest.
    let old = g.H.Host.told c.args.host.now in
    let behind = g.H.Host.told c.write_pages-done.new.host in
    let new = g.H.Host.told c.write_durably.new.host in
    let spelled = bytes_of c.args.pool.now c.args.prepared c.prepared.inside.paged form c.prepared.view_is held in
    let fits = fits_held c.args.pool.now c.args.prepared c.args.self.now.end c.requires.ready form held in
    let new_end : c.self.inside.end + c.len-length.result ≡ c.args.self.now.end + 5 + length form = omega
    (arith, ap end_of c.self.view_is, ap size_of c.prepared.view_is, length-after_gate form, c.len-length.ensures, held.size) in
    subst (λ (n : ℕ). IsJournalAtRest (disk_now new) (forms ++ form ∷ []) n) (sym new_end)
    (added old behind c.args.self.now.end c.self.inside.end form (content c.args.pool.now c.prepared.inside.paged) (ap end_of c.self.view_is) spelled
    fits c.write_pages-done.ensures.during new c.write_pages-done.ensures.course c.write_durably.ensures.course c.in_ok-done.ensures.done
    c.write_durably.ensures.during c.in_ok-write_durably.ensures.done told forms at_rest)

pub write_pages-done-requires-clause-limit : goal.write_pages-done-requires-clause-limit
write_pages-done-requires-clause-limit g c =
    let b = ap length (bytes_of c.args.pool.now c.args.prepared c.prepared.inside.paged c.requires.ready.0 c.prepared.view_is c.requires.ready.1) in
    let f = c.requires.ready.2.room in
    omega (arith, b, f, length-after_gate c.requires.ready.0, ap end_of c.self.view_is)

pub overflow_add-self : goal.overflow_add-self
overflow_add-self g c =
    let f = c.requires.ready.2.room in
    let h = c.requires.ready.1.size in
    omega (arith, f, h, length-after_gate c.requires.ready.0, ap end_of c.self.view_is, ap size_of c.prepared.view_is, c.len-length.ensures)

pub invariant_of-self-2 : goal.invariant_of-self-2
invariant_of-self-2 g c =
    let f = c.requires.ready.2.room in
    let h = c.requires.ready.1.size in
    omega (arith, f, h, length-after_gate c.requires.ready.0, ap end_of c.self.view_is, ap size_of c.prepared.view_is, c.len-length.ensures)
