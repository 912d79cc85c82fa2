mod Alone
mod Examples
mod Having
mod Verdict
