-- Document 01: "For all inputs a public function's promise settles the answer and every lent row afterwards, after a refusal too." A promise is a function's clauses
-- as the toolchain makes them from its source, so none can be weakened unseen. A method stands below its type, as `text.Page.put_byte`, and a trait's method below the
-- type's name and the trait's. The exceptions are `input::read_full` and `input::report_input`, whose outcomes are the reader's to say, and, of
-- `report_input`, the writer's and the report's.
use Rattle.std.specs.Prelude.{◌≡◌}
use seplogic.Ra.Ura.{Ura}
use base.Logic.{SProp, ent}
use prog.Memory.{Memory}
use prog.Routine.{Routine}
use types.Logic.{Logic}
use contract.Monad.{Fun, conj, fact}
use contract.Lifetimes.{Lfts}
use denote.Exit.{yes}
use denote.Triple.Entry.{Args, Res}
use denote.Triple.End.{Fins, all}
use denote.Triple.Clauses.{Ended, Lasts, at_exit, Clauses}
use Rattle.marks.specs.contracts as marks
use Rattle.parts.specs.contracts as parts
use Rattle.lines.specs.contracts as lines
use Rattle.system.specs.contracts as system
use Rattle.records.specs.contracts as records
use Rattle.machine.specs.contracts as machine
use Rattle.spelling.specs.contracts as spelling
use Rattle.numbers.specs.contracts as numbers
use Rattle.calls.specs.contracts as calls
use Rattle.text.specs.contracts as text
use Rattle.day.specs.contracts as day
use Rattle.trace.specs.contracts as trace
use Rattle.host.specs.contracts as host
use Rattle.reader.specs.contracts as reader

-- the outcome of a call on the arguments a: what is returned, and for each parameter that is lent as `&mut` the value that it is left with
abbrev pub Outcome : (T : Ended) (κs : Lfts T.signature.lifetimes) → Args T.signature κs → Type 0
Outcome T κs a = Res T.signature κs × Lasts T κs a

-- none of them is left out, as one would be that lives on in what is returned
abbrev pub Whole : Ended → Type 1
Whole T =
    (κs : Lfts T.signature.lifetimes) (a : Args T.signature κs) → Lasts T κs a ≡ Fins κs T.signature.params (all yes T.signature.params) a

-- Any two outcomes that a promise allows are equal: in every model, and for all arguments, where its `ensures` holds of both, they are. Of a struct that is lent and
-- itself holds rows that are lent, all is settled: of each row the place in memory, the loan and what stands in it.
module _ {M : Type 1} {𝓤 : Ura M} where
  abbrev pub Settled : (T : Ended) → ((𝓛 : Logic 𝓤) → (Memory → SProp 𝓤) → (Routine → Fun 𝓤) → Clauses 𝓤 T) → Type 2
  Settled T promise =
      Whole T
      × ((𝓛 : Logic 𝓤) (mem : Memory → SProp 𝓤) (run : Routine → Fun 𝓤) (κs : Lfts T.signature.lifetimes) (a : Args T.signature κs)
      (g : (promise 𝓛 mem run κs a).ghost) (x y : Outcome T κs a)
      → ent 𝓤
      (conj 𝓤 ((promise 𝓛 mem run κs a).ensures g x.0 (at_exit T κs a x.1)) ((promise 𝓛 mem run κs a).ensures g y.0 (at_exit T κs a y.1)))
      (fact 𝓤 (x ≡ y)))

-- every public function of every crate
pub record UniqueOutcomes {M : Type 1} (𝓤 : Ura M) : Type 2 where
  -- the marks
  pub marks-mark : Settled marks.mark.ended (marks.mark.clauses {𝓤 = 𝓤})
  pub marks-unmark : Settled marks.unmark.ended (marks.unmark.clauses {𝓤 = 𝓤})
  pub marks-clear : Settled marks.clear.ended (marks.clear.clauses {𝓤 = 𝓤})
  pub marks-is-marked : Settled marks.is_marked.ended (marks.is_marked.clauses {𝓤 = 𝓤})
  pub marks-count : Settled marks.count.ended (marks.count.clauses {𝓤 = 𝓤})
  pub marks-lowest : Settled marks.lowest.ended (marks.lowest.clauses {𝓤 = 𝓤})
  pub marks-stands-from : Settled marks.stands_from.ended (marks.stands_from.clauses {𝓤 = 𝓤})
  -- what the calls share
  pub parts-stage : Settled parts.stages.stage.ended (parts.stages.stage.clauses {𝓤 = 𝓤})
  pub parts-is-fresh : Settled parts.stages.is_fresh.ended (parts.stages.is_fresh.clauses {𝓤 = 𝓤})
  pub parts-is-ready : Settled parts.stages.is_ready.ended (parts.stages.is_ready.clauses {𝓤 = 𝓤})
  pub parts-is-live : Settled parts.stages.is_live.ended (parts.stages.is_live.clauses {𝓤 = 𝓤})
  pub parts-not-idle : Settled parts.stages.not_idle.ended (parts.stages.not_idle.clauses {𝓤 = 𝓤})
  pub parts-number : Settled parts.answer.number.ended (parts.answer.number.clauses {𝓤 = 𝓤})
  pub parts-value : Settled parts.answer.value.ended (parts.answer.value.clauses {𝓤 = 𝓤})
  pub parts-unfit-rows : Settled parts.fit.unfit_rows.ended (parts.fit.unfit_rows.clauses {𝓤 = 𝓤})
  pub parts-phase-past : Settled parts.fit.phase_past.ended (parts.fit.phase_past.clauses {𝓤 = 𝓤})
  pub parts-unfit-recovery : Settled parts.fit.unfit_recovery.ended (parts.fit.unfit_recovery.clauses {𝓤 = 𝓤})
  pub parts-unfit-tx : Settled parts.fit.unfit_tx.ended (parts.fit.unfit_tx.clauses {𝓤 = 𝓤})
  pub parts-unfit-idle : Settled parts.fit.unfit_idle.ended (parts.fit.unfit_idle.clauses {𝓤 = 𝓤})
  pub parts-unfit-beside : Settled parts.fit.unfit_beside.ended (parts.fit.unfit_beside.clauses {𝓤 = 𝓤})
  pub parts-unfit-one : Settled parts.fit.unfit_one.ended (parts.fit.unfit_one.clauses {𝓤 = 𝓤})
  pub parts-flush-word : Settled parts.words.flush_word.ended (parts.words.flush_word.clauses {𝓤 = 𝓤})
  pub memory-unfit-idle : Settled parts.memory.Memory.unfit_idle.ended (parts.memory.Memory.unfit_idle.clauses {𝓤 = 𝓤})
  pub memory-unfit-beside : Settled parts.memory.Memory.unfit_beside.ended (parts.memory.Memory.unfit_beside.clauses {𝓤 = 𝓤})
  pub memory-unfit-one : Settled parts.memory.Memory.unfit_one.ended (parts.memory.Memory.unfit_one.clauses {𝓤 = 𝓤})
  pub memory-flush-word : Settled parts.memory.Memory.flush_word.ended (parts.memory.Memory.flush_word.clauses {𝓤 = 𝓤})
  -- the calls, on what they are handed
  pub lines-call-one : Settled lines.call_one.ended (lines.call_one.clauses {𝓤 = 𝓤})
  pub system-call-system : Settled system.call_system.ended (system.call_system.clauses {𝓤 = 𝓤})
  pub system-call-on-memory : Settled system.call_on_memory.ended (system.call_on_memory.clauses {𝓤 = 𝓤})
  pub system-crash-tx : Settled system.crash_tx.ended (system.crash_tx.clauses {𝓤 = 𝓤})
  -- the calls, on a whole store
  pub records-get : Settled records.get.ended (records.get.clauses {𝓤 = 𝓤})
  pub records-put : Settled records.put.ended (records.put.clauses {𝓤 = 𝓤})
  pub records-unfit : Settled records.unfit.ended (records.unfit.clauses {𝓤 = 𝓤})
  pub records-crash-if : Settled records.crash_if.ended (records.crash_if.clauses {𝓤 = 𝓤})
  pub records-store-if : Settled records.store_if.ended (records.store_if.clauses {𝓤 = 𝓤})
  pub machine-place-of : Settled machine.work.place_of.ended (machine.work.place_of.clauses {𝓤 = 𝓤})
  pub machine-slot : Settled machine.work.slot.ended (machine.work.slot.clauses {𝓤 = 𝓤})
  pub machine-work : Settled machine.work.work.ended (machine.work.work.clauses {𝓤 = 𝓤})
  pub machine-zero : Settled machine.work.zero.ended (machine.work.zero.clauses {𝓤 = 𝓤})
  pub machine-renew : Settled machine.work.renew.ended (machine.work.renew.clauses {𝓤 = 𝓤})
  pub machine-blank : Settled machine.work.blank.ended (machine.work.blank.clauses {𝓤 = 𝓤})
  pub machine-make-fresh : Settled machine.make_fresh.ended (machine.make_fresh.clauses {𝓤 = 𝓤})
  pub machine-call : Settled machine.call.ended (machine.call.clauses {𝓤 = 𝓤})
  -- the calls, on a store that is spelled as numbers
  pub spelling-spelt-by : Settled spelling.spelt_by.ended (spelling.spelt_by.clauses {𝓤 = 𝓤})
  pub spelling-spell-phase : Settled spelling.spell_phase.ended (spelling.spell_phase.clauses {𝓤 = 𝓤})
  pub spelling-read-phase : Settled spelling.read_phase.ended (spelling.read_phase.clauses {𝓤 = 𝓤})
  pub spelling-spell-recovery : Settled spelling.spell_recovery.ended (spelling.spell_recovery.clauses {𝓤 = 𝓤})
  pub spelling-read-recovery : Settled spelling.read_recovery.ended (spelling.read_recovery.clauses {𝓤 = 𝓤})
  pub spelling-same-spelling : Settled spelling.same_spelling.ended (spelling.same_spelling.clauses {𝓤 = 𝓤})
  pub numbers-call : Settled numbers.call.ended (numbers.call.clauses {𝓤 = 𝓤})
  pub numbers-asked : Settled numbers.asked.ended (numbers.asked.clauses {𝓤 = 𝓤})
  pub numbers-make-fresh : Settled numbers.make_fresh.ended (numbers.make_fresh.clauses {𝓤 = 𝓤})
  pub calls-register-begin : Settled calls.register_begin.ended (calls.register_begin.clauses {𝓤 = 𝓤})
  pub calls-register-read : Settled calls.register_read.ended (calls.register_read.clauses {𝓤 = 𝓤})
  pub calls-register-write : Settled calls.register_write.ended (calls.register_write.clauses {𝓤 = 𝓤})
  pub calls-register-commit : Settled calls.register_commit.ended (calls.register_commit.clauses {𝓤 = 𝓤})
  pub calls-register-step : Settled calls.register_step.ended (calls.register_step.clauses {𝓤 = 𝓤})
  pub calls-register-make-fresh : Settled calls.events.register_make_fresh.ended (calls.events.register_make_fresh.clauses {𝓤 = 𝓤})
  pub calls-register-flush : Settled calls.events.register_flush.ended (calls.events.register_flush.clauses {𝓤 = 𝓤})
  pub calls-register-crash : Settled calls.events.register_crash.ended (calls.events.register_crash.clauses {𝓤 = 𝓤})
  pub calls-register-recover : Settled calls.events.register_recover.ended (calls.events.register_recover.clauses {𝓤 = 𝓤})
  pub calls-register-recover-up-to : Settled calls.events.register_recover_up_to.ended (calls.events.register_recover_up_to.clauses {𝓤 = 𝓤})
  -- the trace
  pub text-put-byte : Settled text.Page.put_byte.ended (text.Page.put_byte.clauses {𝓤 = 𝓤})
  pub text-put-bytes : Settled text.Page.put_bytes.ended (text.Page.put_bytes.clauses {𝓤 = 𝓤})
  pub text-put-decimal : Settled text.Page.put_decimal.ended (text.Page.put_decimal.clauses {𝓤 = 𝓤})
  pub text-put-answer : Settled text.Page.put_answer.ended (text.Page.put_answer.clauses {𝓤 = 𝓤})
  pub text-put-stop : Settled text.Page.put_stop.ended (text.Page.put_stop.clauses {𝓤 = 𝓤})
  pub text-put-totals : Settled text.Page.put_totals.ended (text.Page.put_totals.clauses {𝓤 = 𝓤})
  pub day-from : Settled day.ReplayRefusalFromTraceRefusal.from.ended (day.ReplayRefusalFromTraceRefusal.from.clauses {𝓤 = 𝓤})
  pub trace-replay-beside : Settled trace.replay_beside.ended (trace.replay_beside.clauses {𝓤 = 𝓤})
  pub trace-replay : Settled trace.replay.ended (trace.replay.clauses {𝓤 = 𝓤})
  pub host-register-replay : Settled host.register_replay.ended (host.register_replay.clauses {𝓤 = 𝓤})
  pub reader-number : Settled reader.number.ended (reader.number.clauses {𝓤 = 𝓤})
  pub reader-header : Settled reader.trace.header.ended (reader.trace.header.clauses {𝓤 = 𝓤})
  pub reader-next : Settled reader.place.next.ended (reader.place.next.clauses {𝓤 = 𝓤})
  pub reader-read-at : Settled reader.place.read_at.ended (reader.place.read_at.clauses {𝓤 = 𝓤})
