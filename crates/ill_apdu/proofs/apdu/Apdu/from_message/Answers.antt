use Rattle.std.proofs.Common.{◌≢◌, ℕ, rules, sym, ap, ◌∙◌}
use Rattle.ill_schema.specs.Message.{apdu_of}
use Rattle.ill_schema.specs.Names.{apdu_node_of}
use Rattle.ill_tables.specs.declared.node.NodeId.{NodeId}
use Rattle.ill_apdu.proofs.Apdus.{body_is, is_in, view_is}
use Rattle.ill_apdu.proofs.apdu.Apdu.from_message.Goals as goal

pub read-requires : goal.read-requires
read-requires c =
    let body = c.body-body.ensures in
    body_is (apdu_of c.args.message.now) NodeId.IllRequest _ body.content body.fits (ap apdu_node_of (sym c.apdu.ensures ∙ c.in-1.is))

pub read-requires-in-3 : goal.read-requires-in-3
read-requires-in-3 c =
    let body = c.body-body.ensures in
    body_is (apdu_of c.args.message.now) NodeId.Shipped _ body.content body.fits (ap apdu_node_of (sym c.apdu.ensures ∙ c.in-3.is))

pub read-requires-in-4 : goal.read-requires-in-4
read-requires-in-4 c =
    let body = c.body-body.ensures in
    body_is (apdu_of c.args.message.now) NodeId.IllAnswer _ body.content body.fits (ap apdu_node_of (sym c.apdu.ensures ∙ c.in-4.is))

pub read-requires-in-5 : goal.read-requires-in-5
read-requires-in-5 c =
    let body = c.body-body.ensures in
    body_is (apdu_of c.args.message.now) NodeId.ConditionalReply _ body.content body.fits (ap apdu_node_of (sym c.apdu.ensures ∙ c.in-5.is))

pub read-requires-in-6 : goal.read-requires-in-6
read-requires-in-6 c =
    let body = c.body-body.ensures in
    body_is (apdu_of c.args.message.now) NodeId.Cancel _ body.content body.fits (ap apdu_node_of (sym c.apdu.ensures ∙ c.in-6.is))

pub read-requires-in-7 : goal.read-requires-in-7
read-requires-in-7 c =
    let body = c.body-body.ensures in
    body_is (apdu_of c.args.message.now) NodeId.CancelReply _ body.content body.fits (ap apdu_node_of (sym c.apdu.ensures ∙ c.in-7.is))

pub read-requires-in-8 : goal.read-requires-in-8
read-requires-in-8 c =
    let body = c.body-body.ensures in
    body_is (apdu_of c.args.message.now) NodeId.Received _ body.content body.fits (ap apdu_node_of (sym c.apdu.ensures ∙ c.in-8.is))

pub read-requires-in-9 : goal.read-requires-in-9
read-requires-in-9 c =
    let body = c.body-body.ensures in
    body_is (apdu_of c.args.message.now) NodeId.Recall _ body.content body.fits (ap apdu_node_of (sym c.apdu.ensures ∙ c.in-9.is))

pub read-requires-in-10 : goal.read-requires-in-10
read-requires-in-10 c =
    let body = c.body-body.ensures in
    body_is (apdu_of c.args.message.now) NodeId.Returned _ body.content body.fits (ap apdu_node_of (sym c.apdu.ensures ∙ c.in-10.is))

pub read-requires-in-11 : goal.read-requires-in-11
read-requires-in-11 c =
    let body = c.body-body.ensures in
    body_is (apdu_of c.args.message.now) NodeId.CheckedIn _ body.content body.fits (ap apdu_node_of (sym c.apdu.ensures ∙ c.in-11.is))

pub read-requires-in-12 : goal.read-requires-in-12
read-requires-in-12 c =
    let body = c.body-body.ensures in
    body_is (apdu_of c.args.message.now) NodeId.Overdue _ body.content body.fits (ap apdu_node_of (sym c.apdu.ensures ∙ c.in-12.is))

pub read-requires-in-13 : goal.read-requires-in-13
read-requires-in-13 c =
    let body = c.body-body.ensures in
    body_is (apdu_of c.args.message.now) NodeId.Renew _ body.content body.fits (ap apdu_node_of (sym c.apdu.ensures ∙ c.in-13.is))

pub read-requires-in-14 : goal.read-requires-in-14
read-requires-in-14 c =
    let body = c.body-body.ensures in
    body_is (apdu_of c.args.message.now) NodeId.RenewAnswer _ body.content body.fits (ap apdu_node_of (sym c.apdu.ensures ∙ c.in-14.is))

pub read-requires-in-15 : goal.read-requires-in-15
read-requires-in-15 c =
    let body = c.body-body.ensures in
    body_is (apdu_of c.args.message.now) NodeId.Lost _ body.content body.fits (ap apdu_node_of (sym c.apdu.ensures ∙ c.in-15.is))

pub read-requires-in-16 : goal.read-requires-in-16
read-requires-in-16 c =
    let body = c.body-body.ensures in
    body_is (apdu_of c.args.message.now) NodeId.Damaged _ body.content body.fits (ap apdu_node_of (sym c.apdu.ensures ∙ c.in-16.is))

pub read-requires-in-17 : goal.read-requires-in-17
read-requires-in-17 c =
    let body = c.body-body.ensures in
    body_is (apdu_of c.args.message.now) NodeId.MessageApdu _ body.content body.fits (ap apdu_node_of (sym c.apdu.ensures ∙ c.in-17.is))

pub read-requires-in-18 : goal.read-requires-in-18
read-requires-in-18 c =
    let body = c.body-body.ensures in
    body_is (apdu_of c.args.message.now) NodeId.StatusQuery _ body.content body.fits (ap apdu_node_of (sym c.apdu.ensures ∙ c.in-18.is))

pub read-requires-in-20 : goal.read-requires-in-20
read-requires-in-20 c =
    let body = c.body-body.ensures in
    body_is (apdu_of c.args.message.now) NodeId.Expired _ body.content body.fits (ap apdu_node_of (sym c.apdu.ensures ∙ c.in-20.is))

pub unreachable-requires : goal.unreachable-requires
unreachable-requires c =
    let apart : (k : ℕ) → c.apdu.result ≢ k → (apdu_of c.args.message.now).number ≢ k = λ k n e. n (c.apdu.ensures ∙ e) in
    let no1 : c.apdu.result ≢ 1 = search rules in
    let no3 : c.apdu.result ≢ 3 = search rules in
    let no4 : c.apdu.result ≢ 4 = search rules in
    let no5 : c.apdu.result ≢ 5 = search rules in
    let no6 : c.apdu.result ≢ 6 = search rules in
    let no7 : c.apdu.result ≢ 7 = search rules in
    let no8 : c.apdu.result ≢ 8 = search rules in
    let no9 : c.apdu.result ≢ 9 = search rules in
    let no10 : c.apdu.result ≢ 10 = search rules in
    let no11 : c.apdu.result ≢ 11 = search rules in
    let no12 : c.apdu.result ≢ 12 = search rules in
    let no13 : c.apdu.result ≢ 13 = search rules in
    let no14 : c.apdu.result ≢ 14 = search rules in
    let no15 : c.apdu.result ≢ 15 = search rules in
    let no16 : c.apdu.result ≢ 16 = search rules in
    let no17 : c.apdu.result ≢ 17 = search rules in
    let no18 : c.apdu.result ≢ 18 = search rules in
    let no20 : c.apdu.result ≢ 20 = search rules in
    is_in (apdu_of c.args.message.now) c.body-body.ensures.fits (
      λ _. apart 1 no1,
      (
        λ left_out. absurd left_out,
        (
          λ _. apart 3 no3,
          (
            λ _. apart 4 no4,
            (
              λ _. apart 5 no5,
              (
                λ _. apart 6 no6,
                (
                  λ _. apart 7 no7,
                  (
                    λ _. apart 8 no8,
                    (
                      λ _. apart 9 no9,
                      (
                        λ _. apart 10 no10,
                        (
                          λ _. apart 11 no11,
                          (
                            λ _. apart 12 no12,
                            (
                              λ _. apart 13 no13,
                              (
                                λ _. apart 14 no14,
                                (
                                  λ _. apart 15 no15,
                                  (
                                    λ _. apart 16 no16,
                                    (
                                      λ _. apart 17 no17,
                                      (
                                        λ _. apart 18 no18,
                                        (
                                          λ left_out. absurd left_out,
                                          (
                                            λ _. apart 20 no20,
                                            tt,
                                          ),
                                        ),
                                      ),
                                    ),
                                  ),
                                ),
                              ),
                            ),
                          ),
                        ),
                      ),
                    ),
                  ),
                ),
              ),
            ),
          ),
        ),
      ),
    )

-- The returns, one by one: the tactics that are tried of themselves take seconds at each.
pub returns-in_ok-read-in-1 : goal.returns-in_ok-read-in-1
returns-in_ok-read-in-1 c = view_is (apdu_of c.args.message.now) _ 1 _ _ c.apdu.ensures c.in-1.is c.in_ok-read-in-1.ensures c.body-body.ensures.content

pub returns-in_ok-read-in-3 : goal.returns-in_ok-read-in-3
returns-in_ok-read-in-3 c = view_is (apdu_of c.args.message.now) _ 3 _ _ c.apdu.ensures c.in-3.is c.in_ok-read-in-3.ensures c.body-body.ensures.content

pub returns-in_ok-read-in-4 : goal.returns-in_ok-read-in-4
returns-in_ok-read-in-4 c = view_is (apdu_of c.args.message.now) _ 4 _ _ c.apdu.ensures c.in-4.is c.in_ok-read-in-4.ensures c.body-body.ensures.content

pub returns-in_ok-read-in-5 : goal.returns-in_ok-read-in-5
returns-in_ok-read-in-5 c = view_is (apdu_of c.args.message.now) _ 5 _ _ c.apdu.ensures c.in-5.is c.in_ok-read-in-5.ensures c.body-body.ensures.content

pub returns-in_ok-read-in-6 : goal.returns-in_ok-read-in-6
returns-in_ok-read-in-6 c = view_is (apdu_of c.args.message.now) _ 6 _ _ c.apdu.ensures c.in-6.is c.in_ok-read-in-6.ensures c.body-body.ensures.content

pub returns-in_ok-read-in-7 : goal.returns-in_ok-read-in-7
returns-in_ok-read-in-7 c = view_is (apdu_of c.args.message.now) _ 7 _ _ c.apdu.ensures c.in-7.is c.in_ok-read-in-7.ensures c.body-body.ensures.content

pub returns-in_ok-read-in-8 : goal.returns-in_ok-read-in-8
returns-in_ok-read-in-8 c = view_is (apdu_of c.args.message.now) _ 8 _ _ c.apdu.ensures c.in-8.is c.in_ok-read-in-8.ensures c.body-body.ensures.content

pub returns-in_ok-read-in-9 : goal.returns-in_ok-read-in-9
returns-in_ok-read-in-9 c = view_is (apdu_of c.args.message.now) _ 9 _ _ c.apdu.ensures c.in-9.is c.in_ok-read-in-9.ensures c.body-body.ensures.content

pub returns-in_ok-read-in-10 : goal.returns-in_ok-read-in-10
returns-in_ok-read-in-10 c = view_is (apdu_of c.args.message.now) _ 10 _ _ c.apdu.ensures c.in-10.is c.in_ok-read-in-10.ensures c.body-body.ensures.content

pub returns-in_ok-read-in-11 : goal.returns-in_ok-read-in-11
returns-in_ok-read-in-11 c = view_is (apdu_of c.args.message.now) _ 11 _ _ c.apdu.ensures c.in-11.is c.in_ok-read-in-11.ensures c.body-body.ensures.content

pub returns-in_ok-read-in-12 : goal.returns-in_ok-read-in-12
returns-in_ok-read-in-12 c = view_is (apdu_of c.args.message.now) _ 12 _ _ c.apdu.ensures c.in-12.is c.in_ok-read-in-12.ensures c.body-body.ensures.content

pub returns-in_ok-read-in-13 : goal.returns-in_ok-read-in-13
returns-in_ok-read-in-13 c = view_is (apdu_of c.args.message.now) _ 13 _ _ c.apdu.ensures c.in-13.is c.in_ok-read-in-13.ensures c.body-body.ensures.content

pub returns-in_ok-read-in-14 : goal.returns-in_ok-read-in-14
returns-in_ok-read-in-14 c = view_is (apdu_of c.args.message.now) _ 14 _ _ c.apdu.ensures c.in-14.is c.in_ok-read-in-14.ensures c.body-body.ensures.content

pub returns-in_ok-read-in-15 : goal.returns-in_ok-read-in-15
returns-in_ok-read-in-15 c = view_is (apdu_of c.args.message.now) _ 15 _ _ c.apdu.ensures c.in-15.is c.in_ok-read-in-15.ensures c.body-body.ensures.content

pub returns-in_ok-read-in-16 : goal.returns-in_ok-read-in-16
returns-in_ok-read-in-16 c = view_is (apdu_of c.args.message.now) _ 16 _ _ c.apdu.ensures c.in-16.is c.in_ok-read-in-16.ensures c.body-body.ensures.content

pub returns-in_ok-read-in-17 : goal.returns-in_ok-read-in-17
returns-in_ok-read-in-17 c = view_is (apdu_of c.args.message.now) _ 17 _ _ c.apdu.ensures c.in-17.is c.in_ok-read-in-17.ensures c.body-body.ensures.content

pub returns-in_ok-read-in-18 : goal.returns-in_ok-read-in-18
returns-in_ok-read-in-18 c = view_is (apdu_of c.args.message.now) _ 18 _ _ c.apdu.ensures c.in-18.is c.in_ok-read-in-18.ensures c.body-body.ensures.content

pub returns-in_ok-read-in-20 : goal.returns-in_ok-read-in-20
returns-in_ok-read-in-20 c = view_is (apdu_of c.args.message.now) _ 20 _ _ c.apdu.ensures c.in-20.is c.in_ok-read-in-20.ensures c.body-body.ensures.content
