mod CheckLemmas
mod DoneLemmas
mod FilesLemmas
mod LineLemmas
mod ReportedLemmas
mod ServeLemmas
mod StatusLemmas
mod WordLemmas
