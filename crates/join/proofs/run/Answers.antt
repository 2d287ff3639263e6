-- `join::run` meets its contract: before the first call the store is fresh, a call leaves the next store and text of the definitions, and the last text ends
-- within the buffer.
use Rattle.std.proofs.Common.{rules, ◌≡◌, ◌∙◌, ap, refl, sym, subst}
use Rattle.dtml.specs.Store.{fresh}
use Rattle.dtml.specs.Asked.{Outcome}
use Rattle.dtml.specs.Checks.{unfit_rows}
use Rattle.dtml.specs.Calls.{make_fresh}
use Rattle.io.specs.Counts.{IsPrefixLen}
use Rattle.text.specs.Buffer.{Buffer, buffer}
use Rattle.join.specs.Join.{store_at, text_at}
use Rattle.join.proofs.Going.{called, wrote, counts-so}
use Rattle.join.proofs.run.Goals as goal

pub loop-i-init : goal.loop-i-init
unfolding make_fresh unfit_rows fresh store_at text_at
loop-i-init c = record { same = (refl, refl); store = ap (λ (o : Outcome). o.store) c.make_fresh-fresh.ensures; text = refl }

pub loop-i-preserved : goal.loop-i-preserved
loop-i-preserved c =
    let before = c.loop-i.invariant in
    let told = c.tell.ensures in record {
      same = (told.same.0 ∙ before.same.0, told.same.1 ∙ before.same.1);
      store = called c.loop-i.i _ _ _ c.asked_at-asked.ensures before.store c.call-done.ensures;
      text = wrote c.loop-i.i _ _ _ c.asked_at-asked.ensures before.store c.call-done.ensures c.args.out.now _ _ before.text told.text;
    }

pub returns : goal.returns
returns c =
    let all : c.loop-i.i ≡ 46 = search rules in
    let back : buffer _ c.loop-i.page.at ≡ text_at c.args.out.now 46 = search (rules, all) in
    (back, subst (λ (o : Buffer). IsPrefixLen o.at o.bytes) (sym back) (counts-so c.args.out.now 46))
