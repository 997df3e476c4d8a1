mod Accounts
