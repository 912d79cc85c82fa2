-- How the book ended, and its text, or a beginning of it.
use Rattle.std.proofs.Common.{refl, ap, inl, inr}
use Rattle.std.specs.Prelude.{Err}
use Rattle.rcv_journal.specs.declared.fault.WriteError.{WriteError}
use Rattle.rcv_top.proofs.run.write_lines.Goals as goal

pub returns-in-Ok-clause-writes : goal.returns-in-Ok-clause-writes
returns-in-Ok-clause-writes g c =
    let whole = c.in-Ok.ensures.whole in
    record {
      status = c.status_of-status.result;
      bytes = whole.bytes;
      is_kind = record { legal = c.requires.legal; final = c.requires.end; ends = c.status_of-status.ensures; written = whole.is_text };
      wrote = inl (refl, whole.written, whole.fine);
    }

pub returns-in-Err-WriteFault-clause-writes : goal.returns-in-Err-WriteFault-clause-writes
returns-in-Err-WriteFault-clause-writes g c =
    let some = c.in-Err-WriteFault.ensures.fault (ap (λ (e : WriteError). Err e) c.in-Err-WriteFault.field-0-is) in
    record {
      status = c.status_of-status.result;
      bytes = some.bytes;
      is_kind = record { legal = c.requires.legal; final = c.requires.end; ends = c.status_of-status.ensures; written = some.is_text };
      wrote = inr (refl, some.rose, some.beginning);
    }
