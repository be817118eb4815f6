use Rattle.serve_port.proofs.crew.serve_port.Given as goal

abbrev pub ghosts-serve_held-K-PortLedger : goal.ghosts-serve_held-K-PortLedger
ghosts-serve_held-K-PortLedger g a = record {
  port = a.port.ghost_name;
  given = g.P.Port.given a.port.now;
  faults = g.P.Port.faults a.port.now;
}

abbrev pub ghosts-serve_held-K-Ledger : goal.ghosts-serve_held-K-Ledger
ghosts-serve_held-K-Ledger g a = record { name = a.blank.name; parts = a.blank.parts }
