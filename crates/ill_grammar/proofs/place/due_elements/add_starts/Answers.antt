use Rattle.std.proofs.Common.{[], IsTrue, append-nil, ap, arith, refl, subst, sym}
use Rattle.std.proofs.lemmas.List.Elements.{All-nil}
use Rattle.ill_grammar.specs.Elements.{element_with}
use Rattle.ill_grammar.specs.DueLists.{have_own_tags}
use Rattle.ill_grammar.specs.code.Listing.{StartsAt}
use Rattle.ill_grammar.proofs.Alternatives.{open-at, starts-nested}
use Rattle.ill_grammar.proofs.DueLists.{alternative-started, left-next, nested-cell, none-begun, none-own, on_ok, own-started, own-tags-with}
use Rattle.ill_grammar.proofs.place.due_elements.add_starts.Goals as goal

pub returns-then-not-cell-clause-added : goal.returns-then-not-cell-clause-added
returns-then-not-cell-clause-added c =
    on_ok c.add.result (λ e. own-started c.args.at c.args.cell.now c.args.due.now.items _ _ e refl refl refl c.if-not-cell.true c.requires.fits.opens) c.add.ensures

pub returns-then-not-cell-clause-all : goal.returns-then-not-cell-clause-all
returns-then-not-cell-clause-all c t =
    on_ok c.add.result (λ e h. none-own c.args.cell.now c.args.due.now.items _ _ e refl c.if-not-cell.true t h) c.add.ensures

pub returns-then-not-cell-clause-once : goal.returns-then-not-cell-clause-once
returns-then-not-cell-clause-once c =
    on_ok c.add.result (λ e own. subst (λ ds. IsTrue (have_own_tags ds)) (sym e) (own-tags-with c.args.due.now.items _ own)) c.add.ensures

pub loop-row-init : goal.loop-row-init
loop-row-init c =
    let cell = c.args.cell.now in
    let starts = starts-nested cell.node c.alternatives_of-cells.result.now (nested-cell cell c.if-not-cell.false c.requires.fits.opens) c.alternatives_of-cells.ensures.meant in
    record {
      added = ([], sym (append-nil c.args.due.now.items), All-nil (StartsAt c.args.at cell c.args.due.now.items));
      left = λ t h. ap (element_with t) starts;
      once = λ own. own;
    }

pub invariant_of-found-in-loop-row : goal.invariant_of-found-in-loop-row
invariant_of-found-in-loop-row c =
    let fits = c.requires.fits in
    record {
      opens = (open-at 0 c.loop-row.row c.alternatives_of-cells.result.now c.cell_at.result.now c.alternatives_of-cells.ensures.open c.cell_at.ensures).0;
      placed = fits.placed;
      there = fits.there;
      default_is = fits.default_is;
      nested = fits.opens;
      few = fits.few;
    }

pub loop-row-preserved : goal.loop-row-preserved
loop-row-preserved c =
    let inv = c.loop-row.invariant in
    let cells = c.alternatives_of-cells.result.now in
    record {
      added = alternative-started c.args.at c.args.cell.now cells c.loop-row.row c.args.due.now.items inv.added.0 c.loop-row.due.items _ _ c.in_ok-add.ensures refl refl c.cell_at.ensures
          c.if-not-cell.false c.requires.fits.opens c.alternatives_of-cells.ensures.meant c.alternatives_of-cells.ensures.open inv.added.1 inv.added.2 inv.left;
      left = left-next c.args.cell.now cells c.loop-row.row c.loop-row.due.items _ _ c.in_ok-add.ensures c.cell_at.ensures inv.left;
      once = λ own. subst (λ ds. IsTrue (have_own_tags ds)) (sym c.in_ok-add.ensures) (own-tags-with c.loop-row.due.items _ (inv.once own));
    }

pub returns-clause-all : goal.returns-clause-all
returns-clause-all c t h =
    none-begun c.args.cell.now c.alternatives_of-cells.result.now c.loop-row.row c.loop-row.due.items c.if-not-cell.false (omega (arith, c.loop-row-test.false)) c.loop-row.invariant.left t h

pub returns-clause-once : goal.returns-clause-once
returns-clause-once c = c.loop-row.invariant.once
