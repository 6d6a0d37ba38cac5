-- Each arm carries its instruction out, and the code says which; what no arm has is unknown.
use mathlib.Core.Path.{ap}
use Prim.Native.Nat.{ℕ}
use borrow.Author.Tests.{ne_eqb}
use Rattle.machine.specs.Codes.{entry_at, table}
use Rattle.run_words.specs.Laws.Unknown.{unknown-at, unknown-refused, either_way}
use borrow.Author.Rules.{rules}
use Rattle.run_cells.proofs.dispatch.on_cells.Goals as goal

pub returns-in-0 : goal.returns-in-0
unfolding entry_at table
returns-in-0 c = c.nothing.ensures c.args.operand c.args.code (record { known = ap (λ (k : ℕ). (entry_at k).known) c.in-0.is; names = ap (λ (k : ℕ). (entry_at k).op) c.in-0.is; asks = ap (λ (k : ℕ). (entry_at k).takes) c.in-0.is })

pub returns-in-1 : goal.returns-in-1
unfolding entry_at table
returns-in-1 c = c.discard.ensures c.args.operand c.args.code (record { known = ap (λ (k : ℕ). (entry_at k).known) c.in-1.is; names = ap (λ (k : ℕ). (entry_at k).op) c.in-1.is; asks = ap (λ (k : ℕ). (entry_at k).takes) c.in-1.is })

pub returns-in-2 : goal.returns-in-2
unfolding entry_at table
returns-in-2 c = c.dup.ensures c.args.operand c.args.code (record { known = ap (λ (k : ℕ). (entry_at k).known) c.in-2.is; names = ap (λ (k : ℕ). (entry_at k).op) c.in-2.is; asks = ap (λ (k : ℕ). (entry_at k).takes) c.in-2.is })

pub returns-in-3 : goal.returns-in-3
unfolding entry_at table
returns-in-3 c = c.swap.ensures c.args.operand c.args.code (record { known = ap (λ (k : ℕ). (entry_at k).known) c.in-3.is; names = ap (λ (k : ℕ). (entry_at k).op) c.in-3.is; asks = ap (λ (k : ℕ). (entry_at k).takes) c.in-3.is })

pub returns-in-4 : goal.returns-in-4
unfolding entry_at table
returns-in-4 c = c.over.ensures c.args.operand c.args.code (record { known = ap (λ (k : ℕ). (entry_at k).known) c.in-4.is; names = ap (λ (k : ℕ). (entry_at k).op) c.in-4.is; asks = ap (λ (k : ℕ). (entry_at k).takes) c.in-4.is })

pub returns-in-5 : goal.returns-in-5
unfolding entry_at table
returns-in-5 c = c.nip.ensures c.args.operand c.args.code (record { known = ap (λ (k : ℕ). (entry_at k).known) c.in-5.is; names = ap (λ (k : ℕ). (entry_at k).op) c.in-5.is; asks = ap (λ (k : ℕ). (entry_at k).takes) c.in-5.is })

pub returns-in-6 : goal.returns-in-6
unfolding entry_at table
returns-in-6 c = c.rot.ensures c.args.operand c.args.code (record { known = ap (λ (k : ℕ). (entry_at k).known) c.in-6.is; names = ap (λ (k : ℕ). (entry_at k).op) c.in-6.is; asks = ap (λ (k : ℕ). (entry_at k).takes) c.in-6.is })

pub returns-in-10 : goal.returns-in-10
unfolding entry_at table
returns-in-10 c = c.depth.ensures c.args.operand c.args.code (record { known = ap (λ (k : ℕ). (entry_at k).known) c.in-10.is; names = ap (λ (k : ℕ). (entry_at k).op) c.in-10.is; asks = ap (λ (k : ℕ). (entry_at k).takes) c.in-10.is })

pub returns-in-14 : goal.returns-in-14
unfolding entry_at table
returns-in-14 c = c.two.ensures c.args.operand c.args.code (record { known = ap (λ (k : ℕ). (entry_at k).known) c.in-14.is; names = ap (λ (k : ℕ). (entry_at k).op) c.in-14.is; asks = ap (λ (k : ℕ). (entry_at k).takes) c.in-14.is })

pub returns-in-15 : goal.returns-in-15
unfolding entry_at table
returns-in-15 c = c.two-in-15.ensures c.args.operand c.args.code (record { known = ap (λ (k : ℕ). (entry_at k).known) c.in-15.is; names = ap (λ (k : ℕ). (entry_at k).op) c.in-15.is; asks = ap (λ (k : ℕ). (entry_at k).takes) c.in-15.is })

pub returns-in-16 : goal.returns-in-16
unfolding entry_at table
returns-in-16 c = c.one.ensures c.args.operand c.args.code (record { known = ap (λ (k : ℕ). (entry_at k).known) c.in-16.is; names = ap (λ (k : ℕ). (entry_at k).op) c.in-16.is; asks = ap (λ (k : ℕ). (entry_at k).takes) c.in-16.is })

pub returns-in-17 : goal.returns-in-17
unfolding entry_at table
returns-in-17 c = c.one-in-17.ensures c.args.operand c.args.code (record { known = ap (λ (k : ℕ). (entry_at k).known) c.in-17.is; names = ap (λ (k : ℕ). (entry_at k).op) c.in-17.is; asks = ap (λ (k : ℕ). (entry_at k).takes) c.in-17.is })

pub returns-in-18 : goal.returns-in-18
unfolding entry_at table
returns-in-18 c = c.one-in-18.ensures c.args.operand c.args.code (record { known = ap (λ (k : ℕ). (entry_at k).known) c.in-18.is; names = ap (λ (k : ℕ). (entry_at k).op) c.in-18.is; asks = ap (λ (k : ℕ). (entry_at k).takes) c.in-18.is })

pub returns-in-19 : goal.returns-in-19
unfolding entry_at table
returns-in-19 c = c.one-in-19.ensures c.args.operand c.args.code (record { known = ap (λ (k : ℕ). (entry_at k).known) c.in-19.is; names = ap (λ (k : ℕ). (entry_at k).op) c.in-19.is; asks = ap (λ (k : ℕ). (entry_at k).takes) c.in-19.is })

pub returns-in-20 : goal.returns-in-20
unfolding entry_at table
returns-in-20 c = c.two-in-20.ensures c.args.operand c.args.code (record { known = ap (λ (k : ℕ). (entry_at k).known) c.in-20.is; names = ap (λ (k : ℕ). (entry_at k).op) c.in-20.is; asks = ap (λ (k : ℕ). (entry_at k).takes) c.in-20.is })

pub returns-in-21 : goal.returns-in-21
unfolding entry_at table
returns-in-21 c = c.two-in-21.ensures c.args.operand c.args.code (record { known = ap (λ (k : ℕ). (entry_at k).known) c.in-21.is; names = ap (λ (k : ℕ). (entry_at k).op) c.in-21.is; asks = ap (λ (k : ℕ). (entry_at k).takes) c.in-21.is })

pub returns-in-22 : goal.returns-in-22
unfolding entry_at table
returns-in-22 c = c.two-in-22.ensures c.args.operand c.args.code (record { known = ap (λ (k : ℕ). (entry_at k).known) c.in-22.is; names = ap (λ (k : ℕ). (entry_at k).op) c.in-22.is; asks = ap (λ (k : ℕ). (entry_at k).takes) c.in-22.is })

pub returns-in-23 : goal.returns-in-23
unfolding entry_at table
returns-in-23 c = c.two-in-23.ensures c.args.operand c.args.code (record { known = ap (λ (k : ℕ). (entry_at k).known) c.in-23.is; names = ap (λ (k : ℕ). (entry_at k).op) c.in-23.is; asks = ap (λ (k : ℕ). (entry_at k).takes) c.in-23.is })

pub returns-in-24 : goal.returns-in-24
unfolding entry_at table
returns-in-24 c = c.two-in-24.ensures c.args.operand c.args.code (record { known = ap (λ (k : ℕ). (entry_at k).known) c.in-24.is; names = ap (λ (k : ℕ). (entry_at k).op) c.in-24.is; asks = ap (λ (k : ℕ). (entry_at k).takes) c.in-24.is })

pub returns-in-25 : goal.returns-in-25
unfolding entry_at table
returns-in-25 c = c.two-in-25.ensures c.args.operand c.args.code (record { known = ap (λ (k : ℕ). (entry_at k).known) c.in-25.is; names = ap (λ (k : ℕ). (entry_at k).op) c.in-25.is; asks = ap (λ (k : ℕ). (entry_at k).takes) c.in-25.is })

pub returns-in-26 : goal.returns-in-26
unfolding entry_at table
returns-in-26 c = c.two-in-26.ensures c.args.operand c.args.code (record { known = ap (λ (k : ℕ). (entry_at k).known) c.in-26.is; names = ap (λ (k : ℕ). (entry_at k).op) c.in-26.is; asks = ap (λ (k : ℕ). (entry_at k).takes) c.in-26.is })

pub returns-in-27 : goal.returns-in-27
unfolding entry_at table
returns-in-27 c = c.two-in-27.ensures c.args.operand c.args.code (record { known = ap (λ (k : ℕ). (entry_at k).known) c.in-27.is; names = ap (λ (k : ℕ). (entry_at k).op) c.in-27.is; asks = ap (λ (k : ℕ). (entry_at k).takes) c.in-27.is })

pub returns-in-28 : goal.returns-in-28
unfolding entry_at table
returns-in-28 c = c.one-in-28.ensures c.args.operand c.args.code (record { known = ap (λ (k : ℕ). (entry_at k).known) c.in-28.is; names = ap (λ (k : ℕ). (entry_at k).op) c.in-28.is; asks = ap (λ (k : ℕ). (entry_at k).takes) c.in-28.is })

pub returns-in-29 : goal.returns-in-29
unfolding entry_at table
returns-in-29 c = c.one-in-29.ensures c.args.operand c.args.code (record { known = ap (λ (k : ℕ). (entry_at k).known) c.in-29.is; names = ap (λ (k : ℕ). (entry_at k).op) c.in-29.is; asks = ap (λ (k : ℕ). (entry_at k).takes) c.in-29.is })

pub returns-in-30 : goal.returns-in-30
unfolding entry_at table
returns-in-30 c = c.one-in-30.ensures c.args.operand c.args.code (record { known = ap (λ (k : ℕ). (entry_at k).known) c.in-30.is; names = ap (λ (k : ℕ). (entry_at k).op) c.in-30.is; asks = ap (λ (k : ℕ). (entry_at k).takes) c.in-30.is })

pub returns-in-31 : goal.returns-in-31
unfolding entry_at table
returns-in-31 c = c.one-in-31.ensures c.args.operand c.args.code (record { known = ap (λ (k : ℕ). (entry_at k).known) c.in-31.is; names = ap (λ (k : ℕ). (entry_at k).op) c.in-31.is; asks = ap (λ (k : ℕ). (entry_at k).takes) c.in-31.is })

pub returns-in-32 : goal.returns-in-32
unfolding entry_at table
returns-in-32 c = c.zero.ensures c.args.operand c.args.code (record { known = ap (λ (k : ℕ). (entry_at k).known) c.in-32.is; names = ap (λ (k : ℕ). (entry_at k).op) c.in-32.is; asks = ap (λ (k : ℕ). (entry_at k).takes) c.in-32.is })

pub returns-in-33 : goal.returns-in-33
unfolding entry_at table
returns-in-33 c = c.two-in-33.ensures c.args.operand c.args.code (record { known = ap (λ (k : ℕ). (entry_at k).known) c.in-33.is; names = ap (λ (k : ℕ). (entry_at k).op) c.in-33.is; asks = ap (λ (k : ℕ). (entry_at k).takes) c.in-33.is })

pub returns-in-34 : goal.returns-in-34
unfolding entry_at table
returns-in-34 c = c.two-in-34.ensures c.args.operand c.args.code (record { known = ap (λ (k : ℕ). (entry_at k).known) c.in-34.is; names = ap (λ (k : ℕ). (entry_at k).op) c.in-34.is; asks = ap (λ (k : ℕ). (entry_at k).takes) c.in-34.is })

pub returns-in-35 : goal.returns-in-35
unfolding entry_at table
returns-in-35 c = c.one-in-35.ensures c.args.operand c.args.code (record { known = ap (λ (k : ℕ). (entry_at k).known) c.in-35.is; names = ap (λ (k : ℕ). (entry_at k).op) c.in-35.is; asks = ap (λ (k : ℕ). (entry_at k).takes) c.in-35.is })

pub returns-in-36 : goal.returns-in-36
unfolding entry_at table
returns-in-36 c = c.two-in-36.ensures c.args.operand c.args.code (record { known = ap (λ (k : ℕ). (entry_at k).known) c.in-36.is; names = ap (λ (k : ℕ). (entry_at k).op) c.in-36.is; asks = ap (λ (k : ℕ). (entry_at k).takes) c.in-36.is })

pub returns-in-37 : goal.returns-in-37
unfolding entry_at table
returns-in-37 c = c.one-in-37.ensures c.args.operand c.args.code (record { known = ap (λ (k : ℕ). (entry_at k).known) c.in-37.is; names = ap (λ (k : ℕ). (entry_at k).op) c.in-37.is; asks = ap (λ (k : ℕ). (entry_at k).takes) c.in-37.is })

pub returns-in-38 : goal.returns-in-38
unfolding entry_at table
returns-in-38 c = c.one-in-38.ensures c.args.operand c.args.code (record { known = ap (λ (k : ℕ). (entry_at k).known) c.in-38.is; names = ap (λ (k : ℕ). (entry_at k).op) c.in-38.is; asks = ap (λ (k : ℕ). (entry_at k).takes) c.in-38.is })

pub returns-in-39 : goal.returns-in-39
unfolding entry_at table
returns-in-39 c = c.one-in-39.ensures c.args.operand c.args.code (record { known = ap (λ (k : ℕ). (entry_at k).known) c.in-39.is; names = ap (λ (k : ℕ). (entry_at k).op) c.in-39.is; asks = ap (λ (k : ℕ). (entry_at k).takes) c.in-39.is })

pub returns-in-40 : goal.returns-in-40
unfolding entry_at table
returns-in-40 c = c.one-in-40.ensures c.args.operand c.args.code (record { known = ap (λ (k : ℕ). (entry_at k).known) c.in-40.is; names = ap (λ (k : ℕ). (entry_at k).op) c.in-40.is; asks = ap (λ (k : ℕ). (entry_at k).takes) c.in-40.is })

pub returns-in-41 : goal.returns-in-41
unfolding entry_at table
returns-in-41 c = c.two-in-41.ensures c.args.operand c.args.code (record { known = ap (λ (k : ℕ). (entry_at k).known) c.in-41.is; names = ap (λ (k : ℕ). (entry_at k).op) c.in-41.is; asks = ap (λ (k : ℕ). (entry_at k).takes) c.in-41.is })

pub returns-in-42 : goal.returns-in-42
unfolding entry_at table
returns-in-42 c = c.two-in-42.ensures c.args.operand c.args.code (record { known = ap (λ (k : ℕ). (entry_at k).known) c.in-42.is; names = ap (λ (k : ℕ). (entry_at k).op) c.in-42.is; asks = ap (λ (k : ℕ). (entry_at k).takes) c.in-42.is })

pub returns-in-43 : goal.returns-in-43
unfolding entry_at table
returns-in-43 c = c.two-in-43.ensures c.args.operand c.args.code (record { known = ap (λ (k : ℕ). (entry_at k).known) c.in-43.is; names = ap (λ (k : ℕ). (entry_at k).op) c.in-43.is; asks = ap (λ (k : ℕ). (entry_at k).takes) c.in-43.is })

pub returns-in-44 : goal.returns-in-44
unfolding entry_at table
returns-in-44 c = c.two-in-44.ensures c.args.operand c.args.code (record { known = ap (λ (k : ℕ). (entry_at k).known) c.in-44.is; names = ap (λ (k : ℕ). (entry_at k).op) c.in-44.is; asks = ap (λ (k : ℕ). (entry_at k).takes) c.in-44.is })

pub returns-in-51 : goal.returns-in-51
unfolding entry_at table
returns-in-51 c = c.dup_nonzero.ensures c.args.operand c.args.code (record { known = ap (λ (k : ℕ). (entry_at k).known) c.in-51.is; names = ap (λ (k : ℕ). (entry_at k).op) c.in-51.is; asks = ap (λ (k : ℕ). (entry_at k).takes) c.in-51.is })

pub returns-in-52 : goal.returns-in-52
unfolding entry_at table
returns-in-52 c = c.literal.ensures c.args.code (record { known = ap (λ (k : ℕ). (entry_at k).known) c.in-52.is; names = ap (λ (k : ℕ). (entry_at k).op) c.in-52.is; asks = ap (λ (k : ℕ). (entry_at k).takes) c.in-52.is })

pub returns-in-53 : goal.returns-in-53
unfolding entry_at table
returns-in-53 c = c.literal-in-53.ensures c.args.code (record { known = ap (λ (k : ℕ). (entry_at k).known) c.in-53.is; names = ap (λ (k : ℕ). (entry_at k).op) c.in-53.is; asks = ap (λ (k : ℕ). (entry_at k).takes) c.in-53.is })

pub returns-in-54 : goal.returns-in-54
unfolding entry_at table
returns-in-54 c = c.literal-in-54.ensures c.args.code (record { known = ap (λ (k : ℕ). (entry_at k).known) c.in-54.is; names = ap (λ (k : ℕ). (entry_at k).op) c.in-54.is; asks = ap (λ (k : ℕ). (entry_at k).takes) c.in-54.is })

pub returns-in-55 : goal.returns-in-55
unfolding entry_at table
returns-in-55 c = c.jump.ensures c.args.operand c.args.code (record { known = ap (λ (k : ℕ). (entry_at k).known) c.in-55.is; names = ap (λ (k : ℕ). (entry_at k).op) c.in-55.is; asks = ap (λ (k : ℕ). (entry_at k).takes) c.in-55.is })

pub returns-in_default : goal.returns-in_default
unfolding table
returns-in_default c = unknown-refused c.args.code c.args.operand c.args.next c.args.p c.args.flag c.args.cells.now (unknown-at c.args.code c.requires.1.0 (search (ne_eqb, either_way)))
