-- Where a line leads: to the next one, or to an end.
use Rattle.std.proofs.Common.{◌≡◌, inl, ℕ, ◌+◌, ◌≤◌, false, List, [], ◌∷◌, ◌++◌, length, Option, Some, None, Ok, Err, refl, sym, ap, ◌∙◌, subst, arith, append-nil}
use Rattle.sk_model.specs.Limits.{line_limit}
use Rattle.sk_model.specs.Lines.{lines_of, AreWithin, IsFirstLong}
use Rattle.sk_model.specs.Missing.{Begins}
use Rattle.sk_io.specs.Traffic.{Traffic, Exchanges, SendsPart, left_of}
use Rattle.sk_io.proofs.Links.{exchanges_trans}
use Rattle.sk_hub.specs.Updaters.{UpdaterState}
use Rattle.sk_theta.specs.Sizes.{Sizes}
use Rattle.sk_read.specs.Reading.{Reading, HasRead, Goes}
use Rattle.sk_read.specs.Reads.{IsSettled, IsInTime}
use Rattle.sk_read.specs.declared.reader.LineFault.{LineFault}
use Rattle.sk_read.specs.declared.reader.LineFault.TheVariants as fault
use Rattle.sk_read.specs.declared.units.Units.TheVariants.{Lines}
use Rattle.sk_read.proofs.LineEnds.{settled_so}
use Rattle.sk_read.proofs.Readings.{given_settled, in_time_ever}
use Rattle.sk_line.specs.Courses.{IsUnderWay}
use Rattle.sk_line.specs.Faults.{end_by}
use Rattle.sk_line.specs.Pumps.{IsPumped, HasRisen, after_one}
use Rattle.sk_line.specs.Replies.{reply_line}
use Rattle.sk_line.specs.Requests.{client_request}
use Rattle.sk_line.specs.Serving.{Answered, AnswersEach, AnswersRequest, IsHelped, lines_in, replies_to, pumps_for}
use Rattle.sk_line.specs.Sessions.{SessionState, session_state, Went, Closes, Quits, IsCutOff, ComesTo}
use Rattle.sk_line.specs.declared.answers.Answer.{Answer}
use Rattle.sk_line.specs.declared.requests.Request.TheVariants.{Quit}
use Rattle.sk_line.proofs.Answering.{answers_more, lines_more, replies_more, lines_count, pumps_more}

-- what is left to read, behind a reply
left_sent : (x y : Option Traffic) (sent : List ℕ) → Exchanges x y [] sent → left_of y ≡ left_of x
left_sent None None sent e = refl
left_sent None (Some y) sent e = absurd e
left_sent (Some x) None sent e = absurd e
left_sent (Some x) (Some y) sent e = ap (λ (l : List ℕ). Some l) (sym e.left)

module _ (shape : Sizes) (a b : SessionState) (answered : List Answered) (taken more : List ℕ) (old r : Reading) (link : Option Traffic) (u : UpdaterState) (count : ℕ) (stands : IsUnderWay shape a answered taken old b) (came : Exchanges b.traffic link more [])
    (pump : IsPumped b.updater u) (once : count ≡ after_one b.pumps) where
  read_all : Exchanges a.traffic link (taken ++ more) (replies_to answered)
  read_all = subst (λ (l : List ℕ). Exchanges a.traffic link (taken ++ more) l) (append-nil (replies_to answered)) (exchanges_trans a.traffic b.traffic link taken (replies_to answered) more [] stands.exchanges came)

  went : (count' : ℕ) → HasRisen 0 count count' → Went shape a answered (taken ++ more) (session_state link u count')
  went count' risen = record { exchanges = read_all; last = b.updater; takes = stands.takes; pump = pump; pumped = omega (arith, stands.pumped, once, risen) }

  stays : HasRisen 0 count count
  stays = omega arith

  -- the link has ended
  pub closes : Goes r (left_of link) (lines_in answered) (taken ++ more) (Ok false) → Closes shape r.most a (session_state link u count)
  closes goes =
      let read = goes.0 in record {
        answered = answered;
        taken = taken ++ more;
        went = went count stays;
        lines = read.has.whole goes.1;
        within = subst (λ (m : ℕ). AreWithin m (lines_in answered)) read.limit read.has.within;
        end = read.end goes.1;
        size = omega (arith, read.has.size goes.1, read.has.count);
      }

  -- no line came
  pub faults : (s : LineFault) → Goes r (left_of link) (lines_in answered) (taken ++ more) (Err s) → ComesTo shape r.most a (session_state link u count) (end_by s)
  faults fault.ReadFault goes = inl (record { answered = answered; taken = taken ++ more; went = went count stays; lines = goes.0; size = goes.1 })
  faults fault.TooMuch goes = record { answered = answered; taken = taken ++ more; went = went count stays; lines = goes.0; size = goes.1 }
  faults (fault.LongLine n) goes = record {
    answered = answered;
    taken = taken ++ more;
    went = went count stays;
    number = goes.0 ∙ ap (λ (m : ℕ). m + 1) (lines_count answered);
    lines = settled_so (λ (text : List ℕ). Begins (lines_in answered) (lines_of text) × IsFirstLong line_limit (length (lines_in answered)) (lines_of text))
        (λ (text : List ℕ). Begins (lines_in answered) (lines_of text) × IsFirstLong line_limit (length answered) (lines_of text)) (left_of link) (taken ++ more)
        (λ text long. (long.0, subst (λ (m : ℕ). IsFirstLong line_limit m (lines_of text)) (lines_count answered) long.1)) goes.3;
    in_time = in_time_ever Lines (lines_in answered) (taken ++ more) goes.2;
    size = goes.1;
  }

  module _ (line : List ℕ) (read : HasRead r (left_of link) (lines_in answered ++ line ∷ []) (taken ++ more)) (in_time : IsInTime r.last Lines (lines_in answered) (taken ++ more)) where
    comes : IsSettled (λ (text : List ℕ). Begins (lines_in answered ++ line ∷ []) (lines_of text)) (left_of link) (taken ++ more)
    comes = given_settled r (left_of link) (lines_in answered ++ line ∷ []) (taken ++ more) read

    short : AreWithin line_limit (lines_in answered ++ line ∷ [])
    short = subst (λ (m : ℕ). AreWithin m (lines_in answered ++ line ∷ [])) read.limit read.has.within

    few : length (taken ++ more) ≤ r.most
    few = omega (arith, read.has.count, read.bound)

    -- the line asks to quit
    pub quits : (u' : UpdaterState) (count' : ℕ) → client_request line ≡ Quit → u' ≡ u → HasRisen 0 count count' → Quits shape r.most a (session_state link u' count')
    quits u' count' quit same risen = subst (λ (v : UpdaterState). Quits shape r.most a (session_state link v count')) (sym same) (record {
      answered = answered;
      line = line;
      taken = taken ++ more;
      went = went count' risen;
      quit = quit;
      lines = comes;
      within = short;
      in_time = in_time_ever Lines (lines_in answered) (taken ++ more) in_time;
      size = few;
    })

    module _ (answer : Answer) (u' : UpdaterState) (n count' : ℕ) (after : Option Traffic) (does : AnswersRequest shape (client_request line) line answer u u') (helped : IsHelped (client_request line) u u' (n + 1)) (risen : HasRisen n count count') where
      abbrev pub t : Answered
      t = record { line = line; answer = answer; pumps = n + 1 }

      all : AnswersEach shape a.updater (answered ++ t ∷ []) u'
      all = answers_more shape a.updater b.updater u' answered t stands.takes (record { pumped = u; pump = pump; once = omega arith; does = does; helped = helped })

      counted : HasRisen (pumps_for (answered ++ t ∷ [])) a.pumps count'
      counted = omega (arith, stands.pumped, once, risen, pumps_more answered t)

      -- its reply was not sent whole
      pub cut_off : SendsPart link after (reply_line answer) → IsCutOff shape r.most a (session_state after u' count')
      cut_off part = record {
        answered = answered;
        last = t;
        taken = taken ++ more;
        before = link;
        exchanges = read_all;
        part = part;
        takes = all;
        pumped = counted;
        lines = subst (λ (left : Option (List ℕ)). IsSettled (λ (text : List ℕ). Begins (lines_in answered ++ line ∷ []) (lines_of text)) left (taken ++ more)) (sym (left_sent link after _ part.2)) comes;
        within = short;
        in_time = in_time_ever Lines (lines_in answered) (taken ++ more) in_time;
        size = few;
      }

      -- its reply was sent
      pub goes_on : Exchanges link after [] (reply_line answer) → IsUnderWay shape a (answered ++ t ∷ []) (taken ++ more) r (session_state after u' count')
      goes_on sent = record {
        exchanges = subst (λ (l : List ℕ). Exchanges a.traffic after (taken ++ more) l) (sym (replies_more answered t))
            (subst (λ (l : List ℕ). Exchanges a.traffic after l (replies_to answered ++ reply_line answer)) (append-nil (taken ++ more))
            (exchanges_trans a.traffic link after (taken ++ more) (replies_to answered) [] (reply_line answer) read_all sent));
        takes = all;
        pumped = counted;
        read = subst (λ (l : List (List ℕ)). HasRead r (left_of after) l (taken ++ more)) (sym (lines_more answered t))
            (subst (λ (left : Option (List ℕ)). HasRead r left (lines_in answered ++ line ∷ []) (taken ++ more)) (sym (left_sent link after (reply_line answer) sent)) read);
      }
